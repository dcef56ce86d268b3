use Rattle.xf_law_invariants.proofs.TreeLemmas.Come.{tree_laws}
use Rattle.xf_law_invariants.proofs.tree.trees_go_and_come.Goals as goal

pub returns : goal.returns
returns c = tree_laws

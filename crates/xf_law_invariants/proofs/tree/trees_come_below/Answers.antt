use Rattle.xf_law_invariants.proofs.TreeLemmas.Attached.{place_laws}
use Rattle.xf_law_invariants.proofs.tree.trees_come_below.Goals as goal

pub returns : goal.returns
returns c = place_laws

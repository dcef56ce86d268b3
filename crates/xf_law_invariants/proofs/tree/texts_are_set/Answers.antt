use Rattle.xf_law_invariants.proofs.TreeLemmas.TextTrees.{text_laws}
use Rattle.xf_law_invariants.proofs.tree.texts_are_set.Goals as goal

pub returns : goal.returns
returns c = text_laws

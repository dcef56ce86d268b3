use Rattle.xf_law_invariants.proofs.TreeLemmas.OfKind.{kind_laws}
use Rattle.xf_law_invariants.proofs.tree.kinds_stay.Goals as goal

pub returns : goal.returns
returns c = kind_laws

use Rattle.xf_law_invariants.proofs.TreeLemmas.Sizes.{size_laws}
use Rattle.xf_law_invariants.proofs.tree.sizes_stay.Goals as goal

pub returns : goal.returns
returns c = size_laws

use Rattle.xf_law_invariants.proofs.TreeLemmas.Topmost.{top_laws}
use Rattle.xf_law_invariants.proofs.tree.tops_stay.Goals as goal

pub returns : goal.returns
returns c = top_laws

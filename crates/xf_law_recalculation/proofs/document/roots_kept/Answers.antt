use Rattle.xf_law_recalculation.proofs.DocumentLemmas.RootsKept.{roots_kept}
use Rattle.xf_law_recalculation.proofs.document.roots_kept.Goals as goal

pub returns : goal.returns
returns c = roots_kept

use Rattle.xf_law_recalculation.proofs.ChangeLemmas.Unchanged.{stands_unchanged}
use Rattle.xf_law_recalculation.proofs.change.text_unchanged.Goals as goal

pub returns : goal.returns
returns c = stands_unchanged

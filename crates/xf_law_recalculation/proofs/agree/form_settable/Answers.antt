use Rattle.xf_law_recalculation.proofs.AgreeLemmas.FormSettable.{form_settable}
use Rattle.xf_law_recalculation.proofs.agree.form_settable.Goals as goal

pub returns : goal.returns
returns c = form_settable

use Rattle.xf_law_recalculation.proofs.AgreeLemmas.FormSettled.{form_agrees}
use Rattle.xf_law_recalculation.proofs.agree.form_agrees.Goals as goal

pub returns : goal.returns
returns c = form_agrees

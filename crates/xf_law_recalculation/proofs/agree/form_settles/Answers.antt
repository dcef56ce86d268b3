use Rattle.xf_law_recalculation.proofs.AgreeLemmas.FormSettled.{form_settles_once, form_settles}
use Rattle.xf_law_recalculation.proofs.agree.form_settles.Goals as goal

pub returns-clause-once : goal.returns-clause-once
returns-clause-once c = form_settles_once

pub returns-clause-settled : goal.returns-clause-settled
returns-clause-settled c = form_settles

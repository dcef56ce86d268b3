use Rattle.xf_law_recalculation.proofs.AgreeLemmas.SettledStatic.{settles_once, settles}
use Rattle.xf_law_recalculation.proofs.agree.settles.Goals as goal

pub returns-clause-once : goal.returns-clause-once
returns-clause-once c = settles_once

pub returns-clause-settled : goal.returns-clause-settled
returns-clause-settled c = settles

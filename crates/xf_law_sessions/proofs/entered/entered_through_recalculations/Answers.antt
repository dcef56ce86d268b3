use Rattle.xf_law_sessions.proofs.EnteredLemmas.Recalculating.{entered_recalculated, shape_recalculated}
use Rattle.xf_law_sessions.proofs.entered.entered_through_recalculations.Goals as goal

pub returns-clause-shape : goal.returns-clause-shape
returns-clause-shape c = shape_recalculated

pub returns-clause-entered : goal.returns-clause-entered
returns-clause-entered c = entered_recalculated

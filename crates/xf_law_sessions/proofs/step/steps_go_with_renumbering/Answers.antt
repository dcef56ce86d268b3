use Rattle.xf_law_sessions.proofs.StepLemmas.StepsGo.{steps_go}
use Rattle.xf_law_sessions.proofs.step.steps_go_with_renumbering.Goals as goal

pub returns : goal.returns
returns c = steps_go

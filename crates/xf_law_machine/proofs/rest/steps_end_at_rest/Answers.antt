use Rattle.xf_law_machine.proofs.RestLemmas.StepLaws.{step_rests}
use Rattle.xf_law_machine.proofs.rest.steps_end_at_rest.Goals as goal

pub returns : goal.returns
returns c = step_rests

use Rattle.xf_law_sessions.proofs.StepLemmas.FixedLaws.{fixed_laws}
use Rattle.xf_law_sessions.proofs.step.states_at_rest_are_fixed.Goals as goal

pub returns : goal.returns
returns c = fixed_laws

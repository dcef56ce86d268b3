use Rattle.xf_law_sessions.proofs.StandingLemmas.AtRest.{stand_at_rest}
use Rattle.xf_law_sessions.proofs.standing.models_stand_at_rest.Goals as goal

pub returns : goal.returns
returns c = stand_at_rest

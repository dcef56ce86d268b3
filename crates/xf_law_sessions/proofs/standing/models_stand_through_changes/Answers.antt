use Rattle.xf_law_sessions.proofs.StandingLemmas.Standing.{standing_changes}
use Rattle.xf_law_sessions.proofs.standing.models_stand_through_changes.Goals as goal

pub returns : goal.returns
returns c = standing_changes

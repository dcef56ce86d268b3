use Rattle.xf_law_sessions.proofs.OutcomeLemmas.Repeats.{repeats_in_turn}
use Rattle.xf_law_sessions.proofs.outcome.repeats_stand_in_turn.Goals as goal

pub returns : goal.returns
returns c = repeats_in_turn

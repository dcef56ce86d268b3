use Rattle.xf_law_sessions.proofs.OutcomeLemmas.Events.{event_laws}
use Rattle.xf_law_sessions.proofs.outcome.events_go_on.Goals as goal

pub returns : goal.returns
returns c = event_laws

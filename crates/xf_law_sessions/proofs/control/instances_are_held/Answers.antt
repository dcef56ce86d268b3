use Rattle.xf_law_sessions.proofs.ControlLemmas.Holding.{instances_hold}
use Rattle.xf_law_sessions.proofs.control.instances_are_held.Goals as goal

pub returns : goal.returns
returns c = instances_hold

use Rattle.xf_law_sessions.proofs.ShownLemmas.Constructed.{construction_laws}
use Rattle.xf_law_sessions.proofs.shown.constructed_is_shown.Goals as goal

pub returns : goal.returns
returns c = construction_laws

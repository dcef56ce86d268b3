use Rattle.xf_law_sessions.proofs.AlikeLemmas.Alike.{alike_laws}
use Rattle.xf_law_sessions.proofs.alike.sessions_go_alike.Goals as goal

pub returns : goal.returns
returns c = alike_laws

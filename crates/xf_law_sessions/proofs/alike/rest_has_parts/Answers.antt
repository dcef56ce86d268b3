use Rattle.xf_law_sessions.proofs.AlikeLemmas.Whole.{whole_laws}
use Rattle.xf_law_sessions.proofs.alike.rest_has_parts.Goals as goal

pub returns : goal.returns
returns c = whole_laws

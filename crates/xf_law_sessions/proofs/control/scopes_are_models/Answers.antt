use Rattle.xf_law_sessions.proofs.ControlLemmas.Models.{scope_laws}
use Rattle.xf_law_sessions.proofs.control.scopes_are_models.Goals as goal

pub returns : goal.returns
returns c = scope_laws

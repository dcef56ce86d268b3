use Rattle.xf_def_sessions.proofs.FilledForms.{usual_filled}
use Rattle.xf_def_sessions.proofs.usual_forms_are_filled.Goals as goal

pub returns : goal.returns
returns c = usual_filled

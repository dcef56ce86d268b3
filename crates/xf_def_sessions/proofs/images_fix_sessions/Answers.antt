use Rattle.xf_def_sessions.proofs.OneImage.{one_image_laws}
use Rattle.xf_def_sessions.proofs.images_fix_sessions.Goals as goal

pub returns : goal.returns
returns c = one_image_laws

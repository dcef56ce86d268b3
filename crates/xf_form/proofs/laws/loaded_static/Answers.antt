use Rattle.xf_form.proofs.StaticLaw.{loaded_static}
use Rattle.xf_form.proofs.laws.loaded_static.Goals as goal

pub returns : goal.returns
returns c = loaded_static

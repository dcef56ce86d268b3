use Rattle.xf_form.proofs.OrderLaw.{loaded_ordered}
use Rattle.xf_form.proofs.laws.loaded_ordered.Goals as goal

pub returns : goal.returns
returns c = loaded_ordered

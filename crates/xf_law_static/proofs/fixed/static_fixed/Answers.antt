use Rattle.xf_law_static.proofs.FixedLemmas.FixedLaw.{static_fixed}
use Rattle.xf_law_static.proofs.fixed.static_fixed.Goals as goal

pub returns : goal.returns
returns c = static_fixed

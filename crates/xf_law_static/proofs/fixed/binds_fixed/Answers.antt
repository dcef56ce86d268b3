use Rattle.xf_law_static.proofs.FixedLemmas.BindsLaw.{binds_fixed}
use Rattle.xf_law_static.proofs.fixed.binds_fixed.Goals as goal

pub returns : goal.returns
returns c = binds_fixed

use Rattle.xf_law_static.proofs.CoveredLemmas.StaticLaw.{static_covered}
use Rattle.xf_law_static.proofs.covered.static_covered.Goals as goal

pub returns : goal.returns
returns c = static_covered

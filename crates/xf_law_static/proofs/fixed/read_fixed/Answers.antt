use Rattle.xf_law_static.proofs.CoveredLemmas.ReaderLaw.{read_as_made}
use Rattle.xf_law_static.proofs.FixedLemmas.FixedLaw.{static_fixed}
use Rattle.xf_law_static.proofs.fixed.read_fixed.Goals as goal

pub returns : goal.returns
returns c = λ d b text expr read static. static_fixed expr (read_as_made d b text expr read) static

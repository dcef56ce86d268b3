use Rattle.xf_law_static.proofs.CoveredLemmas.StaticLaw.{static_covered}
use Rattle.xf_law_static.proofs.CoveredLemmas.ReaderLaw.{read_as_made}
use Rattle.xf_law_static.proofs.covered.read_covered.Goals as goal

pub returns-clause-made : goal.returns-clause-made
returns-clause-made c = read_as_made

pub returns-clause-covered : goal.returns-clause-covered
returns-clause-covered c = λ d b text expr read static. static_covered expr (read_as_made d b text expr read) static

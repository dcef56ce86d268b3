use Rattle.xf_law_sessions.proofs.PathLemmas.BareAgain.{bare_again as again_law}
use Rattle.xf_law_sessions.proofs.path.bare_again.Goals as goal

pub returns : goal.returns
returns c = again_law

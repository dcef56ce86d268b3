use Rattle.xf_law_recalculation.proofs.SinceLemmas.Anew.{since_anew_law}
use Rattle.xf_law_recalculation.proofs.since.since_anew.Goals as goal

pub returns : goal.returns
returns c = since_anew_law

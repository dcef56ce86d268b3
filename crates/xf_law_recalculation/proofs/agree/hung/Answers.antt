use Rattle.xf_law_recalculation.proofs.AgreeLemmas.HungLaws.{hung_forest}
use Rattle.xf_law_recalculation.proofs.agree.hung.Goals as goal

pub returns : goal.returns
returns c = hung_forest

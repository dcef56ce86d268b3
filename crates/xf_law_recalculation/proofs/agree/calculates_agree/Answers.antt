use Rattle.xf_law_recalculation.proofs.AgreeLemmas.SettledStatic.{calculates_agree}
use Rattle.xf_law_recalculation.proofs.agree.calculates_agree.Goals as goal

pub returns : goal.returns
returns c = calculates_agree

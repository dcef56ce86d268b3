use Rattle.xf_law_recalculation.proofs.ChangeLemmas.Carry.{whole_carried}
use Rattle.xf_law_recalculation.proofs.ChangeLemmas.OthersCarry.{first_carried}
use Rattle.xf_law_recalculation.proofs.change.whole.Goals as goal

pub returns-clause-first : goal.returns-clause-first
returns-clause-first c = first_carried

pub returns-clause-carried : goal.returns-clause-carried
returns-clause-carried c = whole_carried

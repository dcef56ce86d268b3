use Rattle.xf_law_recalculation.proofs.ChangeLemmas.OthersCarry.{reserved_carried, given_up_carried, rolled_back_carried}
use Rattle.xf_law_recalculation.proofs.change.numbers_carry.Goals as goal

pub returns-clause-reserved : goal.returns-clause-reserved
returns-clause-reserved c = reserved_carried

pub returns-clause-given_up : goal.returns-clause-given_up
returns-clause-given_up c = given_up_carried

pub returns-clause-rolled_back : goal.returns-clause-rolled_back
returns-clause-rolled_back c = rolled_back_carried

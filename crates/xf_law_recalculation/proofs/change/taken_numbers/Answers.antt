use Rattle.xf_law_recalculation.proofs.ChangeLemmas.TakenNumbers.{under_takes, reserved_takes, unused_free}
use Rattle.xf_law_recalculation.proofs.change.taken_numbers.Goals as goal

pub returns-clause-under : goal.returns-clause-under
returns-clause-under c = under_takes

pub returns-clause-reserved : goal.returns-clause-reserved
returns-clause-reserved c = reserved_takes

pub returns-clause-unused : goal.returns-clause-unused
returns-clause-unused c = unused_free

use Rattle.xf_law_recalculation.proofs.ElsewhereLemmas.Stays.{part_stays_grown, part_stays_detached, part_stays_placed, part_stays_attached}
use Rattle.xf_law_recalculation.proofs.ElsewhereLemmas.Grown.{part_stays_copied, part_stays_planted, part_stays_planted_bare}
use Rattle.xf_law_recalculation.proofs.elsewhere.part_stays_with_trees.Goals as goal

pub returns-clause-grown : goal.returns-clause-grown
returns-clause-grown c = part_stays_grown

pub returns-clause-copied : goal.returns-clause-copied
returns-clause-copied c = part_stays_copied

pub returns-clause-planted : goal.returns-clause-planted
returns-clause-planted c = part_stays_planted

pub returns-clause-planted_bare : goal.returns-clause-planted_bare
returns-clause-planted_bare c = part_stays_planted_bare

pub returns-clause-detached : goal.returns-clause-detached
returns-clause-detached c = part_stays_detached

pub returns-clause-placed : goal.returns-clause-placed
returns-clause-placed c = part_stays_placed

pub returns-clause-attached : goal.returns-clause-attached
returns-clause-attached c = part_stays_attached

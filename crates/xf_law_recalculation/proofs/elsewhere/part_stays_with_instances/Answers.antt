use Rattle.xf_law_recalculation.proofs.ElsewhereLemmas.Stays.{part_stays_dropped, part_stays_rooted}
use Rattle.xf_law_recalculation.proofs.elsewhere.part_stays_with_instances.Goals as goal

pub returns-clause-dropped : goal.returns-clause-dropped
returns-clause-dropped c = part_stays_dropped

pub returns-clause-rooted : goal.returns-clause-rooted
returns-clause-rooted c = part_stays_rooted

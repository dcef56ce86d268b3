use Rattle.xf_law_recalculation.proofs.WithinLemmas.Laws.{given_within, asked_within}
use Rattle.xf_law_recalculation.proofs.within.within_trees.Goals as goal

pub returns-clause-given : goal.returns-clause-given
returns-clause-given c = given_within

pub returns-clause-asked : goal.returns-clause-asked
returns-clause-asked c = asked_within

use Rattle.xf_law_recalculation.proofs.PartLemmas.OfPart.{settled_of_part as law, computed_of_part, values_of_part, settled_values_of_part, pertinent_of_part}
use Rattle.xf_law_recalculation.proofs.PartLemmas.Others.{settled_elsewhere}
use Rattle.xf_law_recalculation.proofs.part.settled_of_part.Goals as goal

pub returns-clause-contents : goal.returns-clause-contents
returns-clause-contents c = law

pub returns-clause-elsewhere : goal.returns-clause-elsewhere
returns-clause-elsewhere c = settled_elsewhere

pub returns-clause-computed : goal.returns-clause-computed
returns-clause-computed c = computed_of_part

pub returns-clause-values : goal.returns-clause-values
returns-clause-values c = values_of_part

pub returns-clause-settled_values : goal.returns-clause-settled_values
returns-clause-settled_values c = settled_values_of_part

pub returns-clause-pertinent : goal.returns-clause-pertinent
returns-clause-pertinent c = pertinent_of_part

use Rattle.xf_law_recalculation.proofs.PartLemmas.OfPart.{asks_of_part as law, count_of_part}
use Rattle.xf_law_recalculation.proofs.part.asks_of_part.Goals as goal

pub returns-clause-asks : goal.returns-clause-asks
returns-clause-asks c = law

pub returns-clause-count : goal.returns-clause-count
returns-clause-count c = count_of_part

use Rattle.xf_law_recalculation.proofs.PartLemmas.OfPart.{applied_of_part as law, applied_stands_in_part}
use Rattle.xf_law_recalculation.proofs.part.applied_of_part.Goals as goal

pub returns-clause-applied : goal.returns-clause-applied
returns-clause-applied c = law

pub returns-clause-stands : goal.returns-clause-stands
returns-clause-stands c = applied_stands_in_part

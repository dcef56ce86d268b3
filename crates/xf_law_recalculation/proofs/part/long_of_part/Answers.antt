use Rattle.xf_law_recalculation.proofs.PartLemmas.OfPart.{long_of_part as law, long_text_of_part}
use Rattle.xf_law_recalculation.proofs.part.long_of_part.Goals as goal

pub returns-clause-entries : goal.returns-clause-entries
returns-clause-entries c = law

pub returns-clause-text : goal.returns-clause-text
returns-clause-text c = long_text_of_part

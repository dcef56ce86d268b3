use Rattle.xf_law_recalculation.proofs.MarksLemmas.Numbers.{but_numbers_value, but_numbers_text}
use Rattle.xf_law_recalculation.proofs.marks.but_numbers.Goals as goal

pub returns-clause-value : goal.returns-clause-value
returns-clause-value c = but_numbers_value

pub returns-clause-text : goal.returns-clause-text
returns-clause-text c = but_numbers_text

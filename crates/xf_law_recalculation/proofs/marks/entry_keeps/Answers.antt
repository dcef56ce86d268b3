use Rattle.xf_law_recalculation.proofs.MarksLemmas.MarksAgree.{entry_keeps_value, entry_keeps_text}
use Rattle.xf_law_recalculation.proofs.marks.entry_keeps.Goals as goal

pub returns-clause-value : goal.returns-clause-value
returns-clause-value c = entry_keeps_value

pub returns-clause-text : goal.returns-clause-text
returns-clause-text c = entry_keeps_text

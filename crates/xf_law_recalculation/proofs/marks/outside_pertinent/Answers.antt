use Rattle.xf_law_recalculation.proofs.MarksLemmas.OutsideLaws.{outside_stood_law, outside_value, outside_truth, outside_text}
use Rattle.xf_law_recalculation.proofs.marks.outside_pertinent.Goals as goal

pub returns-clause-stood : goal.returns-clause-stood
returns-clause-stood c = outside_stood_law

pub returns-clause-value : goal.returns-clause-value
returns-clause-value c = outside_value

pub returns-clause-truth : goal.returns-clause-truth
returns-clause-truth c = outside_truth

pub returns-clause-text : goal.returns-clause-text
returns-clause-text c = outside_text

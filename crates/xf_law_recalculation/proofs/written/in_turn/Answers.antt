use Rattle.xf_law_recalculation.proofs.WrittenLemmas.TurnLaws.{turn_writes, turn_text, turn_truth, turn_content, turn_passed}
use Rattle.xf_law_recalculation.proofs.written.in_turn.Goals as goal

pub returns-clause-writes : goal.returns-clause-writes
returns-clause-writes c = turn_writes

pub returns-clause-text : goal.returns-clause-text
returns-clause-text c = turn_text

pub returns-clause-truth : goal.returns-clause-truth
returns-clause-truth c = turn_truth

pub returns-clause-content : goal.returns-clause-content
returns-clause-content c = turn_content

pub returns-clause-passed : goal.returns-clause-passed
returns-clause-passed c = turn_passed

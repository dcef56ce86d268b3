use Rattle.xf_law_recalculation.proofs.AgreeLemmas.InTurnLaws.{in_turn_contents, in_turn_settled, in_turn_texts}
use Rattle.xf_law_recalculation.proofs.AgreeLemmas.InTurnDone.{in_turn_done, in_turn_value, in_turn_content, in_turn_stands}
use Rattle.xf_law_recalculation.proofs.AgreeLemmas.InTurnLimits.{in_turn_passed, in_turn_fitting}
use Rattle.xf_law_recalculation.proofs.agree.in_turn.Goals as goal

pub returns-clause-contents : goal.returns-clause-contents
returns-clause-contents c = in_turn_contents

pub returns-clause-settled : goal.returns-clause-settled
returns-clause-settled c = in_turn_settled

pub returns-clause-texts : goal.returns-clause-texts
returns-clause-texts c = in_turn_texts

pub returns-clause-passed : goal.returns-clause-passed
returns-clause-passed c = in_turn_passed

pub returns-clause-fitting : goal.returns-clause-fitting
returns-clause-fitting c = in_turn_fitting

pub returns-clause-done : goal.returns-clause-done
returns-clause-done c = in_turn_done

pub returns-clause-value : goal.returns-clause-value
returns-clause-value c = in_turn_value

pub returns-clause-content : goal.returns-clause-content
returns-clause-content c = in_turn_content

pub returns-clause-stands : goal.returns-clause-stands
returns-clause-stands c = in_turn_stands

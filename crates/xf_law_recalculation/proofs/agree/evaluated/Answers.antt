use Rattle.xf_law_recalculation.proofs.AgreeLemmas.EvaluatedLaws.{evaluated_text, evaluated_truth, evaluated_long, surroundings_stay, evaluated_passed, solid_numbers}
use Rattle.xf_law_recalculation.proofs.agree.evaluated.Goals as goal

pub returns-clause-text : goal.returns-clause-text
returns-clause-text c = evaluated_text

pub returns-clause-truth : goal.returns-clause-truth
returns-clause-truth c = evaluated_truth

pub returns-clause-long : goal.returns-clause-long
returns-clause-long c = evaluated_long

pub returns-clause-surroundings : goal.returns-clause-surroundings
returns-clause-surroundings c = surroundings_stay

pub returns-clause-numbers : goal.returns-clause-numbers
returns-clause-numbers c = solid_numbers

pub returns-clause-passed : goal.returns-clause-passed
returns-clause-passed c = evaluated_passed

use Rattle.xf_law_recalculation.proofs.AgreeLemmas.ForestsMeet.{two_forests_value, two_forests}
use Rattle.xf_law_recalculation.proofs.AgreeLemmas.ForestNumbers.{two_forests_but_numbers}
use Rattle.xf_law_recalculation.proofs.agree.two_forests.Goals as goal

pub returns-clause-value : goal.returns-clause-value
returns-clause-value c = two_forests_value

pub returns-clause-text : goal.returns-clause-text
returns-clause-text c = two_forests

pub returns-clause-but_numbers : goal.returns-clause-but_numbers
returns-clause-but_numbers c = two_forests_but_numbers

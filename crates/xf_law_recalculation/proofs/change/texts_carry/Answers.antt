use Rattle.xf_law_recalculation.proofs.ChangeLemmas.TextsCarry.{text_carried, again_carried, settled_carried}
use Rattle.xf_law_recalculation.proofs.change.texts_carry.Goals as goal

pub returns-clause-set : goal.returns-clause-set
returns-clause-set c = text_carried

pub returns-clause-again : goal.returns-clause-again
returns-clause-again c = again_carried

pub returns-clause-settled : goal.returns-clause-settled
returns-clause-settled c = settled_carried

use Rattle.xf_law_recalculation.proofs.AgreeLemmas.FormInTurn.{form_in_turn}
use Rattle.xf_law_recalculation.proofs.agree.form_in_turn.Goals as goal

pub returns : goal.returns
returns c = form_in_turn

use Rattle.xf_law_machine.proofs.BehavioursLemmas.SameLaws.{same_laws}
use Rattle.xf_law_machine.proofs.behaviours.renumbered_states_stay_the_same.Goals as goal

pub returns : goal.returns
returns c = same_laws

use Rattle.xf_law_machine.proofs.BehavioursLemmas.ChainLaws.{chain_laws}
use Rattle.xf_law_machine.proofs.behaviours.flags_stay_chained.Goals as goal

pub returns : goal.returns
returns c = chain_laws

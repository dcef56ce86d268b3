use Rattle.xf_law_invariants.proofs.FrameLemmas.BaseSettled.{data_laws}
use Rattle.xf_law_invariants.proofs.frame.texts_keep_data.Goals as goal

pub returns : goal.returns
returns c = data_laws

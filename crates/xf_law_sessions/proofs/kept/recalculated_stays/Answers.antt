use Rattle.xf_law_sessions.proofs.KeptLemmas.Recalculated.{recalculated_elsewhere}
use Rattle.xf_law_sessions.proofs.kept.recalculated_stays.Goals as goal

pub returns : goal.returns
returns c = recalculated_elsewhere

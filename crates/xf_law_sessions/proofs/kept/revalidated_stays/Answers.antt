use Rattle.xf_law_sessions.proofs.KeptLemmas.Revalidated.{revalidated_elsewhere}
use Rattle.xf_law_sessions.proofs.kept.revalidated_stays.Goals as goal

pub returns : goal.returns
returns c = revalidated_elsewhere

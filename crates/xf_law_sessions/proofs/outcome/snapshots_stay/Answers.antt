use Rattle.xf_law_sessions.proofs.OutcomeLemmas.Snapshot.{snapshot_laws}
use Rattle.xf_law_sessions.proofs.outcome.snapshots_stay.Goals as goal

pub returns : goal.returns
returns c = snapshot_laws

use Rattle.xf_law_sessions.proofs.KeptLemmas.EnteredChanges.{entered_changes}
use Rattle.xf_law_sessions.proofs.kept.entered_through_changes.Goals as goal

pub returns : goal.returns
returns c = entered_changes

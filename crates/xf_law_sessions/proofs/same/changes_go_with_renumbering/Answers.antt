use Rattle.xf_law_sessions.proofs.SameLemmas.GoingLaws.{changes_go}
use Rattle.xf_law_sessions.proofs.same.changes_go_with_renumbering.Goals as goal

pub returns : goal.returns
returns c = changes_go

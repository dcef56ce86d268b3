use Rattle.xf_law_sessions.proofs.SameLemmas.BehavesGo.{behaviours_go}
use Rattle.xf_law_sessions.proofs.same.behaviours_go_with_renumbering.Goals as goal

pub returns : goal.returns
returns c = behaviours_go

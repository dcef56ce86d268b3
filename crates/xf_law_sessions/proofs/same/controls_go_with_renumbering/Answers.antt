use Rattle.xf_law_sessions.proofs.SameLemmas.ControlsGo.{controls_go}
use Rattle.xf_law_sessions.proofs.same.controls_go_with_renumbering.Goals as goal

pub returns : goal.returns
returns c = controls_go

use Rattle.std.proofs.Common.{◌≡◌, drop, map}
use Rattle.std.specs.Prelude.{find}
use Rattle.xf_def_ui.specs.Notifications.{is_same_copy}
use Rattle.xf_controls.specs.Seen.{seen_copy}
use Rattle.xf_controls.proofs.refresh.searched.Given as goal

abbrev pub invariant-loop-other : goal.invariant-loop-other
invariant-loop-other l = find (is_same_copy (seen_copy l.copy)) (map seen_copy l.copies) ≡ find (is_same_copy (seen_copy l.copy)) (map seen_copy (drop l.other-index l.copies))

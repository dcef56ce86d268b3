use Rattle.std.proofs.Common.{◌≡◌, ◌++◌, drop, map}
use Rattle.xf_def_ui.specs.Notifications.{notifications}
use Rattle.xf_controls.specs.Seen.{seen_copy, seen_notification}
use Rattle.xf_controls.proofs.refresh.notifications.Given as goal

abbrev pub invariant-loop-at : goal.invariant-loop-at
invariant-loop-at l =
    map seen_notification l.all ++ notifications (map seen_copy l.before.copies.now) (map seen_copy (drop l.at l.copy-items)) ≡ notifications (map seen_copy l.before.copies.now) (map seen_copy l.copy-items)

use Rattle.std.proofs.Common.{◌≡◌, ◌+◌, ◌*◌, drop}
use Rattle.xf_def_ui.specs.Interface.{interface_of}
use Rattle.xf_controls.specs.Below.{shows, some_shown}
use Rattle.xf_controls.proofs.element.+shown.Given as goal

abbrev pub decreases-is_shown : goal.decreases-is_shown
decreases-is_shown l = 3 * l.most + 1

abbrev pub decreases-shows : goal.decreases-shows
decreases-shows l = 3 * l.most

abbrev pub decreases-some_shown : goal.decreases-some_shown
decreases-some_shown l = 3 * l.most + 2

abbrev pub invariant-some_shown-loop-part : goal.invariant-some_shown-loop-part
invariant-some_shown-loop-part l = some_shown (shows l.most (interface_of l.form)) l.parts ≡ some_shown (shows l.most (interface_of l.form)) (drop l.part-index l.parts)

use Rattle.std.proofs.Common.{◌≡◌}
use Rattle.xf_controls.specs.Former.{put_back}
use Rattle.xf_controls.proofs.shown.put_back.Given as goal

abbrev pub invariant-loop-change : goal.invariant-loop-change
invariant-loop-change l = put_back l.list l.former.items ≡ put_back l.initial.list l.initial.former.items

abbrev pub decreases-loop-change : goal.decreases-loop-change
decreases-loop-change l = goal.left-loop-change l

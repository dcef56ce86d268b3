use Rattle.std.proofs.Common.{◌≡◌, length}
use Rattle.xf_types.specs.Behind.{past_parts}
use Rattle.xf_types.proofs.durations.past_parts.Given as goal

abbrev pub invariant-loop-left : goal.invariant-loop-left
invariant-loop-left l = past_parts l.left l.rest ≡ past_parts l.designators l.text

abbrev pub decreases-loop-left : goal.decreases-loop-left
decreases-loop-left l = length l.left

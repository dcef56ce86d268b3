use Rattle.std.proofs.Common.{◌≡◌, length}
use Rattle.xf_schema.specs.Decimals.{is_before}
use Rattle.xf_schema.proofs.decimals.is_before.Given as goal

abbrev pub invariant-loop-left : goal.invariant-loop-left
invariant-loop-left l = is_before l.first l.second ≡ is_before l.left l.right

abbrev pub decreases-loop-left : goal.decreases-loop-left
decreases-loop-left l = length l.right

use Rattle.std.proofs.Common.{◌≡◌}
use Rattle.xf_schema.specs.Types.{is_endless}
use Rattle.xf_schema.proofs.bases.is_endless.Given as goal

abbrev pub invariant-loop-left : goal.invariant-loop-left
invariant-loop-left l = is_endless l.most l.types l.fn.base ≡ is_endless l.left l.types l.further

abbrev pub decreases-loop-left : goal.decreases-loop-left
decreases-loop-left l = l.left

use Rattle.std.proofs.Common.{◌≡◌}
use Rattle.xf_schema.specs.Types.{end_of}
use Rattle.xf_schema.proofs.bases.end_of.Given as goal

abbrev pub invariant-loop-left : goal.invariant-loop-left
invariant-loop-left l = end_of l.most l.types l.fn.base ≡ end_of l.left l.types l.further

abbrev pub decreases-loop-left : goal.decreases-loop-left
decreases-loop-left l = l.left

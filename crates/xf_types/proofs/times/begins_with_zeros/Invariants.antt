use Rattle.std.proofs.Common.{◌≡◌, length}
use Rattle.xf_types.specs.Times.{begins_with_zeros}
use Rattle.xf_types.proofs.times.begins_with_zeros.Given as goal

abbrev pub invariant-loop-rest : goal.invariant-loop-rest
invariant-loop-rest l = begins_with_zeros l.rest ≡ begins_with_zeros l.text

abbrev pub decreases-loop-rest : goal.decreases-loop-rest
decreases-loop-rest l = length l.rest

use Rattle.std.proofs.Common.{◌≡◌, length}
use Rattle.xf_schema.specs.Decimals.{without_first_zeros}
use Rattle.xf_schema.proofs.decimals.without_first_zeros.Given as goal

abbrev pub invariant-loop-rest : goal.invariant-loop-rest
invariant-loop-rest l = without_first_zeros l.rest ≡ without_first_zeros l.digits

abbrev pub decreases-loop-rest : goal.decreases-loop-rest
decreases-loop-rest l = length l.rest

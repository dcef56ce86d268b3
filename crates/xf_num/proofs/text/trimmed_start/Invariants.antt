use Rattle.std.proofs.Common.{◌≡◌, length}
use Rattle.xf_num.specs.Written.{without_leading}
use Rattle.xf_num.proofs.text.trimmed_start.Given as goal

abbrev pub invariant-loop-rest : goal.invariant-loop-rest
invariant-loop-rest l = without_leading l.rest ≡ without_leading l.text

abbrev pub decreases-loop-rest : goal.decreases-loop-rest
decreases-loop-rest l = length l.rest

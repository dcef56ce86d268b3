use Rattle.std.proofs.Common.{◌≡◌, length}
use Rattle.xf_num.specs.Written.{without_trailing}
use Rattle.xf_num.proofs.text.trimmed_end.Given as goal

abbrev pub invariant-loop-rest : goal.invariant-loop-rest
invariant-loop-rest l = without_trailing l.rest ≡ without_trailing l.text

abbrev pub decreases-loop-rest : goal.decreases-loop-rest
decreases-loop-rest l = length l.rest

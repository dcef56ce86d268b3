use Rattle.std.proofs.Common.{◌≡◌, length}
use Rattle.xf_types.specs.Parts.{is_name}
use Rattle.xf_types.proofs.parts.is_name.Given as goal

abbrev pub invariant-loop-before : goal.invariant-loop-before
invariant-loop-before l = is_name l.rest ≡ is_name l.text

abbrev pub decreases-loop-before : goal.decreases-loop-before
decreases-loop-before l = length l.rest

use Rattle.std.proofs.Common.{◌≡◌, length}
use Rattle.xf_types.specs.Shapes.{is_hex}
use Rattle.xf_types.proofs.shapes.is_hex.Given as goal

abbrev pub invariant-loop-rest : goal.invariant-loop-rest
invariant-loop-rest l = is_hex l.rest ≡ is_hex l.text

abbrev pub decreases-loop-rest : goal.decreases-loop-rest
decreases-loop-rest l = length l.rest

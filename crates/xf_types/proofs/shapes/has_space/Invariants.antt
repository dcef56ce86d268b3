use Rattle.std.proofs.Common.{◌≡◌, drop}
use Rattle.xf_types.specs.Shapes.{has_space}
use Rattle.xf_types.proofs.shapes.has_space.Given as goal

abbrev pub invariant-loop-c : goal.invariant-loop-c
invariant-loop-c l = has_space (drop l.c-index l.text) ≡ has_space l.text

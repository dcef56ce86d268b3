use Rattle.std.proofs.Common.{◌≡◌, take}
use Rattle.std.specs.Prelude.{filter}
use Rattle.xf_eval_shape.specs.Steps.{is_other}
use Rattle.xf_eval_shape.proofs.walk.without.Given as goal

abbrev pub invariant-loop-spot : goal.invariant-loop-spot
invariant-loop-spot l = l.left.items ≡ filter (is_other l.node.number) (take l.spot-index l.spots)

use Rattle.std.proofs.Common.{◌≡◌, take}
use Rattle.xf_eval_shape.specs.Woven.{owner_numbers}
use Rattle.xf_eval_shape.proofs.order.owners_of.Given as goal

abbrev pub invariant-loop-spot : goal.invariant-loop-spot
invariant-loop-spot l = l.nodes ≡ owner_numbers (take l.spot-index l.spots)

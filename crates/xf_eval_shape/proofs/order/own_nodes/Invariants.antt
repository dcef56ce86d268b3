use Rattle.std.proofs.Common.{◌≡◌, take}
use Rattle.xf_eval_shape.specs.Woven.{own_numbers}
use Rattle.xf_eval_shape.proofs.order.own_nodes.Given as goal

abbrev pub invariant-loop-spot : goal.invariant-loop-spot
invariant-loop-spot l = l.nodes ≡ own_numbers (take l.spot-index l.spots)

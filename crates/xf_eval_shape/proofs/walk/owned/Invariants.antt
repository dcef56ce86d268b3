use Rattle.std.proofs.Common.{◌≡◌, true, map, take}
use Rattle.xf_eval_shape.specs.Spots.{numbers_at}
use Rattle.xf_eval_shape.specs.Steps.{are_owned}
use Rattle.xf_eval_shape.proofs.walk.owned.Given as goal

abbrev pub invariant-loop-node : goal.invariant-loop-node
invariant-loop-node l = record {
  numbers : numbers_at l.spots.items ≡ map (λ n. n.number) (take l.node-index l.node-items);
  owned : are_owned l.spots.items ≡ true;
}

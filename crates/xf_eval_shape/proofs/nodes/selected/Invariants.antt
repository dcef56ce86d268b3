use Rattle.std.proofs.Common.{◌≡◌, true, take}
use Rattle.std.specs.List.{flat_map, list_all}
use Rattle.xf_eval_shape.specs.Bound.{bound_at}
use Rattle.xf_eval_shape.specs.Spots.{numbers_at}
use Rattle.xf_eval_shape.specs.Woven.{is_shown}
use Rattle.xf_eval_shape.proofs.nodes.selected.Given as goal

abbrev pub invariant-loop-spot : goal.invariant-loop-spot
invariant-loop-spot g l = record {
  so_far : l.found ≡ flat_map (bound_at l.forest.forest.nodes) (numbers_at (take l.spot-index l.spot-items));
  shown : list_all (is_shown l.forest.forest.nodes) l.found ≡ true;
}

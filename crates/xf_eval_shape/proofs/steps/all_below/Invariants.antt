use Rattle.std.proofs.Common.{◌≡◌, take}
use Rattle.std.specs.List.{flat_map}
use Rattle.xf_name.specs.declared.axis.Axis.TheVariants.{DescendantOrSelf}
use Rattle.xf_def_syntax.specs.declared.expr.Test.TheVariants.{Node}
use Rattle.xf_def_xpath.specs.Steps.{reached}
use Rattle.xf_eval_shape.specs.Spots.{AreSpots, numbers_at, shaped}
use Rattle.xf_eval_shape.proofs.steps.all_below.Given as goal

abbrev pub invariant-loop-spot : goal.invariant-loop-spot
invariant-loop-spot l = record {
  so_far : numbers_at l.found.items ≡ flat_map (reached DescendantOrSelf Node (shaped l.forest.forest.nodes)) (numbers_at (take l.spot-index l.from));
  spots : AreSpots l.forest.forest.nodes l.found.items;
}

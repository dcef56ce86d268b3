use Rattle.std.proofs.Common.{◌≡◌, ◌++◌, map}
use Rattle.std.specs.List.{flat_map}
use Rattle.xf_name.specs.declared.axis.Axis.TheVariants.{DescendantOrSelf}
use Rattle.xf_eval_shape.specs.Spots.{AreSpots, numbers_at}
use Rattle.xf_eval_shape.specs.Steps.{piece}
use Rattle.xf_eval_shape.proofs.walk.with_texts.Given as goal

abbrev pub invariant-loop-other : goal.invariant-loop-other
invariant-loop-other l = record {
  so_far : numbers_at l.found.items ≡ flat_map (piece l.forest.forest.nodes DescendantOrSelf l.test) (map (λ n. n.number) l.yielded);
  spots : AreSpots l.forest.forest.nodes l.found.items;
  whole : map (λ n. n.number) l.yielded ++ l.other-iterator ≡ l.initial.other-iterator;
}

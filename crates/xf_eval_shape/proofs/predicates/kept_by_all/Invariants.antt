use Rattle.std.proofs.Common.{◌≡◌, map, drop}
use Rattle.xf_def_xpath.specs.Meaning.{meaning}
use Rattle.xf_def_xpath.specs.Steps.{kept_by_all}
use Rattle.xf_eval_shape.specs.Over.{shape_at}
use Rattle.xf_eval_shape.specs.Spots.{AreSpots, numbers_at}
use Rattle.xf_eval_shape.proofs.predicates.kept_by_all.Given as goal

abbrev pub invariant-loop-predicate : goal.invariant-loop-predicate
invariant-loop-predicate g l =
    let s = shape_at (g.A.Around.given l.around) l.forest.forest.nodes l.context in record {
      spots : AreSpots l.forest.forest.nodes l.left.items;
      left : kept_by_all s (map meaning (drop l.predicate-index l.predicates)) (numbers_at l.left.items) ≡ kept_by_all s (map meaning l.predicates) (numbers_at l.initial.left.items);
    }

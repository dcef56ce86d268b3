use Rattle.std.proofs.Common.{◌≡◌, suc, drop, length}
use Rattle.xf_def_xpath.specs.Meaning.{meaning}
use Rattle.xf_def_xpath.specs.Steps.{kept_from}
use Rattle.xf_eval_shape.specs.Over.{shape_at}
use Rattle.xf_eval_shape.specs.Spots.{AreSpots, numbers_at}
use Rattle.xf_eval_shape.proofs.Loops.{onto}
use Rattle.xf_eval_shape.proofs.predicates.kept_by.Given as goal

abbrev pub invariant-loop-at : goal.invariant-loop-at
invariant-loop-at g l =
    let s = shape_at (g.A.Around.given l.around) l.forest.forest.nodes l.context in
    let m = meaning l.predicate in record {
      all : l.size ≡ length l.spots;
      spots : AreSpots l.forest.forest.nodes l.left.items;
      left : onto (numbers_at l.left.items) (kept_from s m l.size (suc l.at) (numbers_at (drop l.at l.spots))) ≡ kept_from s m l.size 1 (numbers_at l.spots);
    }

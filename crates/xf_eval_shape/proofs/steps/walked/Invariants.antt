use Rattle.std.proofs.Common.{◌≡◌, map, drop}
use Rattle.xf_def_xpath.specs.Meaning.{walk_of}
use Rattle.xf_def_xpath.specs.Steps.{walked}
use Rattle.xf_eval_shape.specs.Over.{shape_at}
use Rattle.xf_eval_shape.specs.Spots.{AreSpots, numbers_at}
use Rattle.xf_eval_shape.proofs.steps.walked.Given as goal

abbrev pub invariant-loop-step : goal.invariant-loop-step
invariant-loop-step g l =
    let s = shape_at (g.A.Around.given l.around) l.forest.forest.nodes l.context in record {
      spots : AreSpots l.forest.forest.nodes l.spots.items;
      left : walked s (map walk_of (drop l.step-index l.steps)) (numbers_at l.spots.items) ≡ walked s (map walk_of l.steps) (numbers_at l.initial.spots.items);
    }

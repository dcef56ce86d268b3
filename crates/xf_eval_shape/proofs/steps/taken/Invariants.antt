use Rattle.std.proofs.Common.{◌≡◌, map, drop, option_map}
use Rattle.xf_def_xpath.specs.Meaning.{meaning}
use Rattle.xf_def_xpath.specs.Setting.{each, joined}
use Rattle.xf_def_xpath.specs.Steps.{from_one}
use Rattle.xf_eval_shape.specs.Over.{shape_at}
use Rattle.xf_eval_shape.specs.Spots.{AreSpots, numbers_at}
use Rattle.xf_eval_shape.proofs.Loops.{gathered}
use Rattle.xf_eval_shape.proofs.steps.taken.Given as goal

abbrev pub invariant-loop-spot : goal.invariant-loop-spot
invariant-loop-spot g l =
    let s = shape_at (g.A.Around.given l.around) l.forest.forest.nodes l.context in
    let one = from_one l.axis l.test (map meaning l.predicates) s in record {
      spots : AreSpots l.forest.forest.nodes l.found.items;
      left : gathered (numbers_at l.found.items) (each one (numbers_at (drop l.spot-index l.from))) ≡ option_map joined (each one (numbers_at l.from));
    }

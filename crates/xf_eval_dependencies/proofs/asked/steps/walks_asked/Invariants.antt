use Rattle.std.proofs.Common.{◌≡◌, map, drop}
use Rattle.xf_def_xpath.specs.Asked as lang
use Rattle.xf_def_xpath.specs.AskedSteps.{walks_asked}
use Rattle.xf_def_xpath.specs.Reads.{trace_of_step}
use Rattle.xf_eval_shape.specs.Over.{shape_at}
use Rattle.xf_eval_dependencies.specs.Asked.Tells.{Stands, Tells}
use Rattle.xf_eval_dependencies.proofs.asked.steps.walks_asked.Given as goal

abbrev pub invariant-loop-step : goal.invariant-loop-step
invariant-loop-step g l =
    let nodes = l.forest.forest.nodes in
    let s = shape_at (g.A.Around.given l.around) nodes l.context in record {
      stands : Stands nodes l.left;
      told : (a : lang.Asked) → Tells nodes l.initial.left a → (b : lang.Asked) × Tells nodes l.left b × (walks_asked s (map trace_of_step (drop l.step-index l.steps)) b ≡ walks_asked s (map trace_of_step l.steps) a);
    }

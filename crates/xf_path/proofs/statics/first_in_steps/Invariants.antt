use Rattle.std.proofs.Common.{◌≡◌, map, drop}
use Rattle.xf_path.specs.StaticParts.{first_in_steps}
use Rattle.xf_path.specs.Static.{static_of_step}
use Rattle.xf_path.proofs.statics.first_in_steps.Given as goal

abbrev pub invariant-loop-step : goal.invariant-loop-step
invariant-loop-step l = first_in_steps (map static_of_step (drop l.step-index l.steps)) ≡ first_in_steps (map static_of_step l.steps)

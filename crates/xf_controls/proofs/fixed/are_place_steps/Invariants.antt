use Rattle.std.proofs.Common.{drop}
use Rattle.xf_def_model.specs.Pertinent.{AllOf}
use Rattle.xf_controls.specs.Fixed.{IsPlaceStep}
use Rattle.xf_controls.proofs.fixed.are_place_steps.Given as goal

abbrev pub invariant-loop-step : goal.invariant-loop-step
invariant-loop-step l = AllOf IsPlaceStep (drop l.step-index l.steps) → AllOf IsPlaceStep l.steps

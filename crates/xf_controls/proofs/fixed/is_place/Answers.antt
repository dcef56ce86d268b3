use Rattle.std.proofs.Common.{subst}
use Rattle.xf_def_model.specs.Pertinent.{AllOf}
use Rattle.xf_law_bindings.specs.Fixed.{IsPlace}
use Rattle.xf_controls.specs.Fixed.{IsPlaceStep}
use Rattle.xf_controls.proofs.FixedLaws.{from-place, path-place}
use Rattle.xf_controls.proofs.fixed.is_place.Goals as goal

pub returns-in-Path : goal.returns-in-Path
returns-in-Path c = λ h. path-place c.in-Path.field-0 c.in-Path.field-1 c.in-Path.steps c.args.expr.now c.in-Path.is (subst (AllOf IsPlaceStep) c.as_slice.ensures (c.are_place_steps.ensures h))

pub returns-else-not-is_instance : goal.returns-else-not-is_instance
returns-else-not-is_instance c = λ h.
    from-place c.in-From.first c.in-From.steps c.args.expr.now c.in-From.is (subst IsPlace c.get.ensures (c.is_instance.ensures c.if-not-is_instance.false)) (subst (AllOf IsPlaceStep) c.as_slice-in-From.ensures (c.are_place_steps-in-From.ensures h))

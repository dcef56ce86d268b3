use Rattle.xf_controls.specs.Fixed.{IsPlaceStep}
use Rattle.xf_controls.proofs.FixedLaws.{all-end, all-more}
use Rattle.xf_controls.proofs.fixed.are_place_steps.Goals as goal

pub loop-step-preserved : goal.loop-step-preserved
loop-step-preserved c = all-more IsPlaceStep c.args.steps.now c.loop-step.step-index c.step-item.result c.loop-step-test.true c.step-item.is (c.is_place_step.ensures c.if-not-is_place_step.false) c.loop-step.invariant

pub returns : goal.returns
returns c = λ h. all-end IsPlaceStep c.args.steps.now c.loop-step.step-index c.loop-step-test.false c.loop-step.invariant

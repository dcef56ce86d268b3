use Rattle.std.proofs.Common.{sym, ◌∙◌, subst}
use Rattle.xf_def_model.specs.Pertinent.{AllOf}
use Rattle.xf_controls.specs.Fixed.{IsWritten}
use Rattle.xf_controls.proofs.FixedLaws.{step-place}
use Rattle.xf_controls.proofs.fixed.is_place_step.Goals as goal

pub returns : goal.returns
returns c = λ h. step-place c.args.step.now (sym c.meets_texts.ensures ∙ c.if-meets_texts.false) (sym c.comes_back.ensures ∙ c.if-comes_back.false) (subst (AllOf IsWritten) c.as_slice.ensures (c.are_written.ensures h))

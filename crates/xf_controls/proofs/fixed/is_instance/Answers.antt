use Rattle.std.proofs.Common.{subst}
use Rattle.xf_def_model.specs.Pertinent.{AllOf}
use Rattle.xf_controls.specs.Fixed.{IsWritten}
use Rattle.xf_controls.proofs.FixedLaws.{call-place}
use Rattle.xf_controls.proofs.fixed.is_instance.Goals as goal

pub returns-else-code-ne-INSTANCE : goal.returns-else-code-ne-INSTANCE
returns-else-code-ne-INSTANCE c = λ h. call-place c.in-Call.field-0 c.in-Call.code c.in-Call.arguments c.args.expr.now c.in-Call.is c.if-code-ne-INSTANCE.false (subst (AllOf IsWritten) c.as_slice.ensures (c.are_written.ensures h))

use Rattle.xf_controls.specs.Fixed.{IsWritten}
use Rattle.xf_controls.proofs.FixedLaws.{all-end, all-more}
use Rattle.xf_controls.proofs.fixed.are_written.Goals as goal

pub loop-expr-preserved : goal.loop-expr-preserved
loop-expr-preserved c = all-more IsWritten c.args.exprs.now c.loop-expr.expr-index c.expr-item.result c.loop-expr-test.true c.expr-item.is (c.is_written.ensures c.if-not-is_written.false) c.loop-expr.invariant

pub returns : goal.returns
returns c = λ h. all-end IsWritten c.args.exprs.now c.loop-expr.expr-index c.loop-expr-test.false c.loop-expr.invariant

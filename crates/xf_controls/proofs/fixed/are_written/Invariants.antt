use Rattle.std.proofs.Common.{drop}
use Rattle.xf_def_model.specs.Pertinent.{AllOf}
use Rattle.xf_controls.specs.Fixed.{IsWritten}
use Rattle.xf_controls.proofs.fixed.are_written.Given as goal

abbrev pub invariant-loop-expr : goal.invariant-loop-expr
invariant-loop-expr l = AllOf IsWritten (drop l.expr-index l.exprs) → AllOf IsWritten l.exprs

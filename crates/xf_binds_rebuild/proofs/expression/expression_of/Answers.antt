use Rattle.std.proofs.Common.{◌≡◌, Some, None, ap, sym, ◌∙◌}
use Rattle.xf_def_syntax.specs.declared.expr.Expr.{Expr}
use Rattle.xf_binds_rebuild.specs.Static.{fixed_if}
use Rattle.xf_binds_rebuild.proofs.Expressions.{expression-some, expression-none, fixed-in}
use Rattle.xf_binds_rebuild.proofs.expression.expression_of.Goals as goal

pub returns-in-Some-clause-value : goal.returns-in-Some-clause-value
returns-in-Some-clause-value c =
    expression-some (λ e. e.now) c.args.binds.now c.args.entry.bind c.in-Some.bind.now c.args.entry.property c.expression_in.result c.in-Some.ensures c.expression_in.ensures

pub returns-in-Some-clause-fixed : goal.returns-in-Some-clause-fixed
returns-in-Some-clause-fixed c fixed =
    ap fixed_if c.expression_in.ensures ∙ fixed-in c.args.binds.now c.args.entry.bind c.in-Some.bind.now c.args.entry.property fixed c.in-Some.ensures

pub returns-in-None-clause-value : goal.returns-in-None-clause-value
returns-in-None-clause-value c = expression-none c.args.binds.now c.args.entry.bind c.args.entry.property c.in-None.ensures

-- Links and steps that call `position()` or `last()`, be it in a predicate (XPath 1.0, section 4.1).
use Rattle.std.specs.Prelude.{Bool}
use Rattle.xf_def_syntax.specs.declared.expr.Link.{Link}
use Rattle.xf_def_syntax.specs.declared.expr.Step.{Step}
use Rattle.xf_def_syntax.specs.declared.expr.Expr.TheFolds.{fold-Link, fold-Step}
use Rattle.xf_def_model.specs.Rules.{expr_placed, link_placed, step_placed}

abbrev pub link_calls_place : Link → Bool
link_calls_place = fold-Link Bool Bool Bool expr_placed link_placed step_placed

abbrev pub step_calls_place : Step → Bool
step_calls_place = fold-Step Bool Bool Bool expr_placed link_placed step_placed

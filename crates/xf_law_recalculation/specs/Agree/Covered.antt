-- The expressions of which the law is proved that two forests that agree give them one value: all operators and functions but `event` and
-- `index`, paths over all axes, predicates by position. A step that is not written out tells no texts apart.
use Rattle.std.specs.Prelude.{Bool, not, ◌&&◌, ◌||◌}
use Rattle.xf_name.specs.declared.axis.Axis.{Axis}
use Rattle.xf_def_syntax.specs.declared.expr.Expr.{Expr}
use Rattle.xf_def_syntax.specs.declared.expr.Expr.TheOpen.{Step-F}
use Rattle.xf_def_syntax.specs.declared.expr.Expr.TheFolds.{fold-Expr}
use Rattle.xf_def_syntax.specs.declared.expr.Test.{Test}
use Rattle.xf_def_xpath.specs.AskedSteps.{is_kind, meets_texts}
use Rattle.xf_def_xpath.specs.Exact.{Facts, LinkFacts, all_placed, expr_facts, link_facts}

-- a test that tells texts apart is written out
abbrev pub is_told : Bool → Axis → Test → Bool
is_told is_written axis test = is_written || not (is_kind test && meets_texts axis)

abbrev pub step_facts : Step-F Facts LinkFacts Bool → Bool
step_facts step = is_told step.is_written step.axis step.test && all_placed step.predicates

abbrev pub facts_of : Expr → Facts
facts_of = fold-Expr Facts LinkFacts Bool expr_facts link_facts step_facts

abbrev pub is_covered : Expr → Bool
is_covered expr = (facts_of expr).is_exact

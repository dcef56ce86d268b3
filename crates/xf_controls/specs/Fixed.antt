-- Expressions that name nodes by where they stand alone, part by part (XPath 1.0, section 2): location paths whose steps tell no texts apart and
-- whose predicates are written numbers, from the context node, a root or a named instance.
use Rattle.std.specs.Prelude.{◌≡◌, Bool, true}
use Rattle.xf_def_syntax.specs.declared.expr.Expr.{Expr}
use Rattle.xf_def_syntax.specs.declared.expr.Expr.TheFolds.{fold-Step}
use Rattle.xf_def_syntax.specs.declared.expr.Step.{Step}
use Rattle.xf_def_xpath.specs.Exact.{Facts, LinkFacts, expr_facts, facts_of, link_facts, step_facts}
use Rattle.xf_def_xpath.specs.Quiet.{Quiet, LinkQuiet, expr_quiet, link_quiet, quiet_of, step_quiet}

-- a number or a text that is written out: it asks nothing
pub record IsWritten (e : Expr) : Type 0 where
  pub placed : (facts_of e).is_placed ≡ true
  pub quiet : (quiet_of e).is_quiet ≡ true
  pub empty : (quiet_of e).is_empty ≡ true

pub record IsPlaceStep (s : Step) : Type 0 where
  pub exact : fold-Step Facts LinkFacts Bool expr_facts link_facts step_facts s ≡ true
  pub quiet : fold-Step Quiet LinkQuiet Bool expr_quiet link_quiet step_quiet s ≡ true

-- Expressions of which it is told over the shape of a forest what they read and select: their predicates go by position and size alone,
-- the id of an instance is written as a literal, no event is asked, and of `choose` no branch gives nodes. It follows from what a loader
-- asks of every computed expression (XForms 1.1, section 6.1).
use Rattle.std.specs.Prelude.{ℕ, Bool, true, false, ◌&&◌, List, [], ◌∷◌, map, Option, Some, None, is_some}
use Rattle.std.specs.List.{list_all}
use Rattle.xf_def_syntax.specs.declared.expr.Expr.{Expr}
use Rattle.xf_def_syntax.specs.declared.expr.Link.{Link}
use Rattle.xf_def_syntax.specs.declared.expr.Step.{Step}
use Rattle.xf_def_syntax.specs.declared.expr.Expr.TheOpen.{Expr-F, Link-F, Step-F}
use Rattle.xf_def_syntax.specs.declared.expr.Expr.TheFolds.{fold-Expr, fold-Link, fold-Step}
use Rattle.xf_def_syntax.specs.declared.expr.Operator.{Operator}
use Rattle.xf_def_xpath.specs.Exact.{Facts, LinkFacts, facts, branches, call_facts, links_placed, links_plain}
use Rattle.xf_def_xpath.specs.Table.{Function, function_at}
use Rattle.xf_def_xpath.specs.Table as of

-- ---- expressions

pub record Fixed : Type 0 where
  -- by position and size alone
  pub is_placed : Bool
  -- no nodes
  pub is_plain : Bool
  -- the text of a literal
  pub literal : Option (List ℕ)
  pub is_fixed : Bool

pub record LinkFixed : Type 0 where
  pub operator : Operator
  pub right : Fixed

abbrev pub told : Fixed → Facts
told x = facts x.is_placed x.is_plain false

abbrev pub link_told : LinkFixed → LinkFacts
link_told x = record { operator = x.operator; right = told x.right }

abbrev pub all_fixed : List Fixed → Bool
all_fixed xs = list_all (λ x. x.is_fixed) xs

abbrev pub begins_literal : List Fixed → Bool
begins_literal [] = true
begins_literal (x ∷ xs) = is_some x.literal

abbrev pub call_fixed : Function → List Fixed → Bool
call_fixed of.event xs = false
call_fixed of.instance xs = begins_literal xs && all_fixed xs
call_fixed of.choosing xs = all_fixed xs && list_all (λ x. x.is_plain) (branches (map told xs))
call_fixed function xs = all_fixed xs

abbrev pub fixed : Bool → Bool → Option (List ℕ) → Bool → Fixed
fixed is_placed is_plain literal is_fixed = record { is_placed = is_placed; is_plain = is_plain; literal = literal; is_fixed = is_fixed }

abbrev pub expr_fixed : Expr-F Fixed LinkFixed Bool → Fixed
expr_fixed (Expr-F.Number place k) = fixed true true None true
expr_fixed (Expr-F.Literal place text) = fixed true true (Some text) true
expr_fixed (Expr-F.Call place code xs) = let f = call_facts (function_at code) (map told xs) in fixed f.is_placed f.is_plain None (call_fixed (function_at code) xs)
expr_fixed (Expr-F.Negated place signs x) = fixed x.is_placed true None x.is_fixed
expr_fixed (Expr-F.Chain first links) =
    fixed (first.is_placed && links_placed (map link_told links)) (links_plain first.is_plain (map link_told links)) None (first.is_fixed && list_all (λ l. l.right.is_fixed) links)
expr_fixed (Expr-F.Filter first xs) = fixed false false None (first.is_fixed && list_all (λ x. x.is_placed) xs)
expr_fixed (Expr-F.Path place start steps) = fixed false false None (list_all (λ b. b) steps)
expr_fixed (Expr-F.From first steps) = fixed false false None (first.is_fixed && list_all (λ b. b) steps)

abbrev pub link_fixed : Link-F Fixed LinkFixed Bool → LinkFixed
link_fixed link = record { operator = link.operator; right = link.right }

abbrev pub step_fixed : Step-F Fixed LinkFixed Bool → Bool
step_fixed step = list_all (λ x. x.is_placed) step.predicates

abbrev pub fixed_of : Expr → Fixed
fixed_of = fold-Expr Fixed LinkFixed Bool expr_fixed link_fixed step_fixed

abbrev pub link_fixed_of : Link → LinkFixed
link_fixed_of = fold-Link Fixed LinkFixed Bool expr_fixed link_fixed step_fixed

abbrev pub is_fixed_link : Link → Bool
is_fixed_link link = (link_fixed_of link).right.is_fixed

abbrev pub is_fixed_step : Step → Bool
is_fixed_step = fold-Step Fixed LinkFixed Bool expr_fixed link_fixed step_fixed

abbrev pub is_fixed : Expr → Bool
is_fixed expr = (fixed_of expr).is_fixed

-- ---- predicates

abbrev pub is_placed : Expr → Bool
is_placed expr = (fixed_of expr).is_placed

abbrev pub are_placed : List Expr → Bool
are_placed exprs = list_all is_placed exprs

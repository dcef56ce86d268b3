-- Static expressions, a notion of this processor for the computed expressions of binds (XForms 1.1, section 6.1): which nodes such an
-- expression reads is known from the structure of the data alone, so its predicates hold no path, and it asks neither indexes nor the
-- event.
use Rattle.std.specs.Prelude.{ℕ, Bool, true, false, not, List, length, Option, Some, None}
use Rattle.std.specs.List.{list_any}
use Rattle.xf_def_syntax.specs.declared.expr.Expr.{Expr}
use Rattle.xf_def_syntax.specs.declared.expr.Expr.TheOpen.{Expr-F, Link-F, Step-F}
use Rattle.xf_def_syntax.specs.declared.expr.Expr.TheFolds.{fold-Expr, fold-Link, fold-Step}
use Rattle.xf_def_syntax.specs.declared.expr.Link.{Link}
use Rattle.xf_def_syntax.specs.declared.expr.Step.{Step}
use Rattle.xf_def_syntax.specs.declared.expr.Operator.{Operator}
use Rattle.xf_def_syntax.specs.declared.expr.Operator.TheVariants.{Union}
use Rattle.xf_path.specs.StaticParts.{Static, LinkStatic, or_else, place_if, first_of, first_fault, first_in_predicates, first_in_links, first_in_steps, call_fault, call_gives_nodes, is_plain_call}

-- ---- operators

abbrev pub is_union : Operator → Bool
is_union Union = true
is_union other = false

abbrev pub any_union : List LinkStatic → Bool
any_union links = list_any (λ link. is_union link.operator) links

abbrev pub link_in_predicate : LinkStatic → Option ℕ
link_in_predicate link = or_else (place_if (is_union link.operator) link.place) link.right.in_predicate

-- ---- the levels

abbrev pub expr_static : Expr-F Static LinkStatic (Option ℕ) → Static
expr_static (Expr-F.Number place k) = record { place = place; fault = None; in_predicate = None; is_literal = false; gives_nodes = false }
expr_static (Expr-F.Literal place text) = record { place = place; fault = None; in_predicate = None; is_literal = true; gives_nodes = false }
expr_static (Expr-F.Call place code es) = record {
  place = place;
  fault = or_else (call_fault place code es) (first_fault es);
  in_predicate = or_else (place_if (not (is_plain_call code (length es))) place) (first_in_predicates es);
  is_literal = false;
  gives_nodes = call_gives_nodes code es;
}
expr_static (Expr-F.Negated place signs e) = record { place = place; fault = e.fault; in_predicate = e.in_predicate; is_literal = false; gives_nodes = false }
expr_static (Expr-F.Chain first links) = record {
  place = first.place;
  fault = or_else first.fault (first_in_links links);
  in_predicate = or_else first.in_predicate (first_of link_in_predicate links);
  is_literal = false;
  gives_nodes = any_union links;
}
expr_static (Expr-F.Filter first predicates) = record {
  place = first.place;
  fault = or_else first.fault (first_in_predicates predicates);
  in_predicate = Some first.place;
  is_literal = false;
  gives_nodes = true;
}
expr_static (Expr-F.Path place start steps) = record { place = place; fault = first_in_steps steps; in_predicate = Some place; is_literal = false; gives_nodes = true }
expr_static (Expr-F.From first steps) = record {
  place = first.place;
  fault = or_else first.fault (first_in_steps steps);
  in_predicate = Some first.place;
  is_literal = false;
  gives_nodes = true;
}

abbrev pub link_static : Link-F Static LinkStatic (Option ℕ) → LinkStatic
link_static link = record { place = link.place; operator = link.operator; right = link.right }

-- of a step, the first part of its predicates that is not allowed
abbrev pub step_static : Step-F Static LinkStatic (Option ℕ) → Option ℕ
step_static step = first_in_predicates step.predicates

abbrev pub static_of : Expr → Static
static_of = fold-Expr Static LinkStatic (Option ℕ) expr_static link_static step_static

abbrev pub static_of_link : Link → LinkStatic
static_of_link = fold-Link Static LinkStatic (Option ℕ) expr_static link_static step_static

abbrev pub static_of_step : Step → Option ℕ
static_of_step = fold-Step Static LinkStatic (Option ℕ) expr_static link_static step_static

-- the place of the first part of a computed expression that is not static, or None where it is static
abbrev pub static_fault : Expr → Option ℕ
static_fault expr = (static_of expr).fault

-- Whether an expression calls `position()` or `last()`: one equation for each kind of expression, and rows.
use Rattle.std.proofs.Common.{◌≡◌, ℕ, Bool, true, false, ◌||◌, List, [], ◌∷◌, map, refl, sym, ap, ◌∙◌, codes}
use Rattle.xf_def_syntax.specs.declared.expr.Expr.{Expr}
use Rattle.xf_def_syntax.specs.declared.expr.Link.{Link}
use Rattle.xf_def_syntax.specs.declared.expr.Step.{Step, roll-Step}
use Rattle.xf_def_syntax.specs.declared.expr.Start.{Start}
use Rattle.xf_def_syntax.specs.declared.expr.Start.TheVariants.{Context}
use Rattle.xf_def_syntax.specs.declared.expr.Test.TheVariants.{AnyName}
use Rattle.xf_name.specs.declared.axis.Axis.TheVariants.{Child}
use Rattle.xf_def_syntax.specs.declared.expr.Expr.TheOpen.{Expr-F}
use Rattle.xf_def_syntax.specs.declared.expr.Expr.TheFolds.{fold-Link, fold-Step, fold-roll-Expr, fold_out-Step, fold_out-Link}
use Rattle.xf_def_syntax.specs.declared.expr.Expr.TheVariants.{Literal, Call, Negated, Chain, Filter, Path, From, rolls-Literal, rolls-Call, rolls-Negated, rolls-Chain, rolls-Filter, rolls-Path, rolls-From}
use Rattle.xf_def_xpath.specs.Table.{function_at}
use Rattle.xf_def_model.specs.Rules.{is_place, some, expr_placed, link_placed, step_placed, calls_place}

abbrev pub link_calls : Link → Bool
link_calls = fold-Link Bool Bool Bool expr_placed link_placed step_placed

abbrev pub step_calls : Step → Bool
step_calls = fold-Step Bool Bool Bool expr_placed link_placed step_placed

pub calls-Literal : (place : ℕ) (text : List ℕ) → calls_place (Literal place text) ≡ false
calls-Literal place text = ap calls_place (sym (rolls-Literal place text)) ∙ fold-roll-Expr Bool Bool Bool expr_placed link_placed step_placed (Expr-F.Literal place text)

pub calls-Call : (place code : ℕ) (arguments : List Expr) → calls_place (Call place code arguments) ≡ (is_place (function_at code) || some (map calls_place arguments))
calls-Call place code arguments = ap calls_place (sym (rolls-Call place code arguments)) ∙ fold-roll-Expr Bool Bool Bool expr_placed link_placed step_placed (Expr-F.Call place code arguments)

pub calls-Negated : (place signs : ℕ) (operand : Expr) → calls_place (Negated place signs operand) ≡ calls_place operand
calls-Negated place signs operand = ap calls_place (sym (rolls-Negated place signs operand)) ∙ fold-roll-Expr Bool Bool Bool expr_placed link_placed step_placed (Expr-F.Negated place signs operand)

pub calls-Chain : (first : Expr) (links : List Link) → calls_place (Chain first links) ≡ (calls_place first || some (map link_calls links))
calls-Chain first links = ap calls_place (sym (rolls-Chain first links)) ∙ fold-roll-Expr Bool Bool Bool expr_placed link_placed step_placed (Expr-F.Chain first links)

pub calls-Filter : (first : Expr) (predicates : List Expr) → calls_place (Filter first predicates) ≡ (calls_place first || some (map calls_place predicates))
calls-Filter first predicates = ap calls_place (sym (rolls-Filter first predicates)) ∙ fold-roll-Expr Bool Bool Bool expr_placed link_placed step_placed (Expr-F.Filter first predicates)

pub calls-Path : (place : ℕ) (start : Start) (steps : List Step) → calls_place (Path place start steps) ≡ some (map step_calls steps)
calls-Path place start steps = ap calls_place (sym (rolls-Path place start steps)) ∙ fold-roll-Expr Bool Bool Bool expr_placed link_placed step_placed (Expr-F.Path place start steps)

pub calls-From : (first : Expr) (steps : List Step) → calls_place (From first steps) ≡ (calls_place first || some (map step_calls steps))
calls-From first steps = ap calls_place (sym (rolls-From first steps)) ∙ fold-roll-Expr Bool Bool Bool expr_placed link_placed step_placed (Expr-F.From first steps)

pub calls-link : (link : Link) → link_calls link ≡ calls_place link.right
calls-link link = fold_out-Link Bool Bool Bool expr_placed link_placed step_placed link

pub calls-step : (step : Step) → step_calls step ≡ some (map calls_place step.predicates)
calls-step step = fold_out-Step Bool Bool Bool expr_placed link_placed step_placed step

-- ---- rows

-- position(), last(), true(), concat('a', position())
position_itself : calls_place (Call 0 29 []) ≡ true
position_itself = calls-Call 0 29 []

last_itself : calls_place (Call 0 19 []) ≡ true
last_itself = calls-Call 0 19 []

true_is_none : calls_place (Call 0 44 []) ≡ false
true_is_none = calls-Call 0 44 []

in_an_argument : calls_place (Call 0 6 (Literal 0 (codes "a") ∷ Call 0 29 [] ∷ [])) ≡ true
in_an_argument = calls-Call 0 6 (Literal 0 (codes "a") ∷ Call 0 29 [] ∷ []) ∙ rw (calls-Literal 0 (codes "a"), calls-Call 0 29 []) refl

-- -position()
under_a_sign : calls_place (Negated 0 1 (Call 0 29 [])) ≡ true
under_a_sign = calls-Negated 0 1 (Call 0 29 []) ∙ calls-Call 0 29 []

-- instance()[last()]
in_a_predicate : calls_place (Filter (Call 0 18 []) (Call 0 19 [] ∷ [])) ≡ true
in_a_predicate = calls-Filter (Call 0 18 []) (Call 0 19 [] ∷ []) ∙ rw (calls-Call 0 18 [], calls-Call 0 19 []) refl

-- x[last()]
in_a_step : calls_place (Path 0 Context (roll-Step (record { place = 0; is_below = false; is_written = true; axis = Child; test = AnyName; predicates = Call 0 19 [] ∷ [] }) ∷ [])) ≡ true
in_a_step = calls-Path 0 Context _ ∙ rw (calls-step _) (rw (calls-Call 0 19 []) refl)

-- The equations of what is fixed, one for each variant: the fold over Rust types does not compute, so they are cited.
use Rattle.std.proofs.Common.{◌≡◌, ℕ, List, map, sym, ap, ◌∙◌}
use Rattle.xf_def_syntax.specs.declared.expr.Expr.{Expr}
use Rattle.xf_def_syntax.specs.declared.expr.Start.{Start}
use Rattle.xf_def_syntax.specs.declared.expr.Step.{Step}
use Rattle.xf_def_syntax.specs.declared.expr.Link.{Link}
use Rattle.xf_def_syntax.specs.declared.expr.Expr.TheOpen.{Expr-F}
use Rattle.xf_def_syntax.specs.declared.expr.Expr.TheFolds.{fold-roll-Expr, fold_out-Step, fold_out-Link}
use Rattle.xf_def_syntax.specs.declared.expr.Expr.TheVariants.{Number, Literal, Call, Negated, Chain, Filter, Path, From, rolls-Number, rolls-Literal, rolls-Call, rolls-Negated, rolls-Chain, rolls-Filter, rolls-Path, rolls-From}
use Rattle.xf_def_values.specs.Conversions.{Decimal}
use Rattle.std.specs.Prelude.{Bool, true}
use Rattle.std.specs.List.{list_all}
use Rattle.xf_eval_shape.specs.Fixed.{Fixed, LinkFixed, are_placed, expr_fixed, link_fixed, step_fixed, fixed_of, link_fixed_of, is_fixed, is_fixed_link, is_fixed_step}
use Rattle.xf_def_forest.proofs.BackLaws.{and-true}
use Rattle.xf_eval_shape.proofs.Results.{all-mapped}

pub fixed-Number : (place : ℕ) (k : Decimal) → fixed_of (Number place k) ≡ expr_fixed (Expr-F.Number place k)
fixed-Number place k = ap fixed_of (sym (rolls-Number place k)) ∙ fold-roll-Expr Fixed LinkFixed Bool expr_fixed link_fixed step_fixed (Expr-F.Number place k)

pub fixed-Literal : (place : ℕ) (text : List ℕ) → fixed_of (Literal place text) ≡ expr_fixed (Expr-F.Literal place text)
fixed-Literal place text = ap fixed_of (sym (rolls-Literal place text)) ∙ fold-roll-Expr Fixed LinkFixed Bool expr_fixed link_fixed step_fixed (Expr-F.Literal place text)

pub fixed-Call : (place code : ℕ) (arguments : List Expr) → fixed_of (Call place code arguments) ≡ expr_fixed (Expr-F.Call place code (map fixed_of arguments))
fixed-Call place code arguments = ap fixed_of (sym (rolls-Call place code arguments)) ∙ fold-roll-Expr Fixed LinkFixed Bool expr_fixed link_fixed step_fixed (Expr-F.Call place code arguments)

pub fixed-Negated : (place signs : ℕ) (operand : Expr) → fixed_of (Negated place signs operand) ≡ expr_fixed (Expr-F.Negated place signs (fixed_of operand))
fixed-Negated place signs operand = ap fixed_of (sym (rolls-Negated place signs operand)) ∙ fold-roll-Expr Fixed LinkFixed Bool expr_fixed link_fixed step_fixed (Expr-F.Negated place signs operand)

pub fixed-Chain : (first : Expr) (links : List Link) → fixed_of (Chain first links) ≡ expr_fixed (Expr-F.Chain (fixed_of first) (map link_fixed_of links))
fixed-Chain first links = ap fixed_of (sym (rolls-Chain first links)) ∙ fold-roll-Expr Fixed LinkFixed Bool expr_fixed link_fixed step_fixed (Expr-F.Chain first links)

pub fixed-Filter : (first : Expr) (predicates : List Expr) → fixed_of (Filter first predicates) ≡ expr_fixed (Expr-F.Filter (fixed_of first) (map fixed_of predicates))
fixed-Filter first predicates = ap fixed_of (sym (rolls-Filter first predicates)) ∙ fold-roll-Expr Fixed LinkFixed Bool expr_fixed link_fixed step_fixed (Expr-F.Filter first predicates)

pub fixed-Path : (place : ℕ) (start : Start) (steps : List Step) → fixed_of (Path place start steps) ≡ expr_fixed (Expr-F.Path place start (map is_fixed_step steps))
fixed-Path place start steps = ap fixed_of (sym (rolls-Path place start steps)) ∙ fold-roll-Expr Fixed LinkFixed Bool expr_fixed link_fixed step_fixed (Expr-F.Path place start steps)

pub fixed-From : (first : Expr) (steps : List Step) → fixed_of (From first steps) ≡ expr_fixed (Expr-F.From (fixed_of first) (map is_fixed_step steps))
fixed-From first steps = ap fixed_of (sym (rolls-From first steps)) ∙ fold-roll-Expr Fixed LinkFixed Bool expr_fixed link_fixed step_fixed (Expr-F.From first steps)

pub fixed-link : (l : Link) → link_fixed_of l ≡ record { operator = l.operator; right = fixed_of l.right }
fixed-link l = fold_out-Link Fixed LinkFixed Bool expr_fixed link_fixed step_fixed l

pub fixed-step : (s : Step) → is_fixed_step s ≡ list_all (λ x. x.is_placed) (map fixed_of s.predicates)
fixed-step s = fold_out-Step Fixed LinkFixed Bool expr_fixed link_fixed step_fixed s

-- the predicates of a step
pub step-placed : (s : Step) → is_fixed_step s ≡ true → are_placed s.predicates ≡ true
step-placed s h = all-mapped (λ (x : Fixed). x.is_placed) fixed_of s.predicates ∙ sym (fixed-step s) ∙ h

-- the parts of what is fixed
pub links-fixed : (e first : Expr) (links ls : List Link) → e ≡ Chain first links → is_fixed e ≡ true → ls ≡ links → list_all is_fixed_link ls ≡ true
links-fixed e first links ls i h same =
    ap (list_all is_fixed_link) same
    ∙ all-mapped (λ (x : LinkFixed). x.right.is_fixed) link_fixed_of links
    ∙ (and-true (fixed_of first).is_fixed (list_all (λ (x : LinkFixed). x.right.is_fixed) (map link_fixed_of links)) (sym (ap is_fixed i ∙ ap (λ (x : Fixed). x.is_fixed) (fixed-Chain first links)) ∙ h)).1

pub predicates-placed : (e first : Expr) (predicates ps : List Expr) → e ≡ Filter first predicates → is_fixed e ≡ true → ps ≡ predicates → are_placed ps ≡ true
predicates-placed e first predicates ps i h same =
    ap are_placed same
    ∙ all-mapped (λ (x : Fixed). x.is_placed) fixed_of predicates
    ∙ (and-true (fixed_of first).is_fixed (list_all (λ (x : Fixed). x.is_placed) (map fixed_of predicates)) (sym (ap is_fixed i ∙ ap (λ (x : Fixed). x.is_fixed) (fixed-Filter first predicates)) ∙ h)).1

pub path-fixed : (e : Expr) (place : ℕ) (start : Start) (steps ss : List Step) → e ≡ Path place start steps → is_fixed e ≡ true → ss ≡ steps → list_all is_fixed_step ss ≡ true
path-fixed e place start steps ss i h same =
    ap (list_all is_fixed_step) same
    ∙ all-mapped (λ (b : Bool). b) is_fixed_step steps
    ∙ (sym (ap is_fixed i ∙ ap (λ (x : Fixed). x.is_fixed) (fixed-Path place start steps)) ∙ h)

pub from-fixed : (e first : Expr) (steps ss : List Step) → e ≡ From first steps → is_fixed e ≡ true → ss ≡ steps → list_all is_fixed_step ss ≡ true
from-fixed e first steps ss i h same =
    ap (list_all is_fixed_step) same
    ∙ all-mapped (λ (b : Bool). b) is_fixed_step steps
    ∙ (and-true (fixed_of first).is_fixed (list_all (λ (b : Bool). b) (map is_fixed_step steps)) (sym (ap is_fixed i ∙ ap (λ (x : Fixed). x.is_fixed) (fixed-From first steps)) ∙ h)).1

-- Syntax trees as the reader makes them: a step that is not written out is `.` or `..`, a chain has links, and `instance` has one argument
-- at most. And the laws that what is read is so, and that the static ones are covered by the law of two forests.
use Rattle.std.specs.Prelude.{◌≡◌, ℕ, Bool, true, false, ◌&&◌, List, [], ◌∷◌, Option, Some, None, Ok}
use Rattle.std.specs.List.{list_all}
use Rattle.xf_def_syntax.specs.declared.expr.Expr.{Expr}
use Rattle.xf_def_syntax.specs.declared.expr.Expr.TheOpen.{Expr-F, Link-F, Step-F}
use Rattle.xf_def_syntax.specs.declared.expr.Expr.TheFolds.{fold-Expr}
use Rattle.xf_def_syntax.specs.declared.form.Bind.{Bind}
use Rattle.xf_def_syntax.specs.declared.form.Tables.{Tables}
use Rattle.xf_name.specs.Bindings.{Bindings}
use Rattle.xf_path.specs.Static.{static_fault}
use Rattle.xf_path.specs.Grammar.{parsed}
use Rattle.xf_def_xpath.specs.Table.{Function, function_at}
use Rattle.xf_def_xpath.specs.Table as of
use Rattle.xf_def_model.specs.Pertinent.{AllOf}
use Rattle.xf_law_recalculation.specs.Agree.Covered.{is_told, is_covered}
use Rattle.xf_law_recalculation.specs.Agree.FormSettles.{AreCovered}

abbrev pub all_of : List Bool → Bool
all_of bs = list_all (λ b. b) bs

abbrev pub has_links : List Bool → Bool
has_links [] = false
has_links (l ∷ ls) = true

abbrev pub few_arguments : Function → List Bool → Bool
few_arguments of.instance [] = true
few_arguments of.instance (x ∷ []) = true
few_arguments of.instance (x ∷ y ∷ xs) = false
few_arguments function xs = true

abbrev pub expr_as_read : Expr-F Bool Bool Bool → Bool
expr_as_read (Expr-F.Number place k) = true
expr_as_read (Expr-F.Literal place text) = true
expr_as_read (Expr-F.Call place code xs) = few_arguments (function_at code) xs && all_of xs
expr_as_read (Expr-F.Negated place signs x) = x
expr_as_read (Expr-F.Chain first links) = has_links links && first && all_of links
expr_as_read (Expr-F.Filter first xs) = first && all_of xs
expr_as_read (Expr-F.Path place start steps) = all_of steps
expr_as_read (Expr-F.From first steps) = first && all_of steps

abbrev pub link_as_read : Link-F Bool Bool Bool → Bool
link_as_read link = link.right

abbrev pub step_as_read : Step-F Bool Bool Bool → Bool
step_as_read step = is_told step.is_written step.axis step.test && all_of step.predicates

abbrev pub is_as_read : Expr → Bool
is_as_read = fold-Expr Bool Bool Bool expr_as_read link_as_read step_as_read

-- ---- the laws

-- what is read is so
abbrev pub ReadAsMade : Type 0
ReadAsMade = (d : ℕ) (b : Bindings) (text : List ℕ) (expr : Expr) → parsed d b text ≡ Ok expr → is_as_read expr ≡ true

abbrev pub StaticCovered : Type 0
StaticCovered = (expr : Expr) → is_as_read expr ≡ true → static_fault expr ≡ None → is_covered expr ≡ true

-- so a text that is read as a static expression is covered
abbrev pub ReadCovered : Type 0
ReadCovered = (d : ℕ) (b : Bindings) (text : List ℕ) (expr : Expr) → parsed d b text ≡ Ok expr → static_fault expr ≡ None → is_covered expr ≡ true

-- ---- of a form

-- the calculate of a bind, if it has one, was read from a text, and is static
abbrev pub IsReadStatic : ℕ → Bindings → Option Expr → Type 0
IsReadStatic d b None = Unit {0}
IsReadStatic d b (Some expr) = (text : List ℕ) × (parsed d b text ≡ Ok expr) × (static_fault expr ≡ None)

abbrev pub FormCovered : Type 0
FormCovered = (d : ℕ) (b : Bindings) (tables : Tables) → AllOf (λ (bind : Bind). IsReadStatic d b bind.properties.calculate) tables.binds → AreCovered tables

-- The laws that the loader of a form lets the calls over the shape be asked: what it takes as a computed expression is fixed.
use Rattle.std.specs.Prelude.{◌≡◌, ℕ, true, List, None, Ok}
use Rattle.std.specs.List.{list_all}
use Rattle.xf_def_syntax.specs.declared.expr.Expr.{Expr}
use Rattle.xf_def_syntax.specs.declared.form.Bind.{Bind}
use Rattle.xf_name.specs.Bindings.{Bindings}
use Rattle.xf_path.specs.Static.{static_fault}
use Rattle.xf_path.specs.Grammar.{parsed}
use Rattle.xf_def_model.specs.Pertinent.{AllOf}
use Rattle.xf_eval_shape.specs.Fixed.{is_fixed}
use Rattle.xf_law_static.specs.Covered.AsRead.{is_as_read}

abbrev pub StaticFixed : Type 0
StaticFixed = (expr : Expr) → is_as_read expr ≡ true → static_fault expr ≡ None → is_fixed expr ≡ true

abbrev pub ReadFixed : Type 0
ReadFixed = (d : ℕ) (b : Bindings) (text : List ℕ) (expr : Expr) → parsed d b text ≡ Ok expr → static_fault expr ≡ None → is_fixed expr ≡ true

-- ---- of a form

-- an expression was read from a text, and is static
abbrev pub IsRead : ℕ → Bindings → Expr → Type 0
IsRead d b expr = (text : List ℕ) × (parsed d b text ≡ Ok expr) × (static_fault expr ≡ None)

-- so the node sets of binds are fixed
abbrev pub BindsFixed : Type 0
BindsFixed = (d : ℕ) (b : Bindings) (binds : List Bind) → AllOf (λ (bind : Bind). IsRead d b bind.node_set) binds → list_all (λ (bind : Bind). is_fixed bind.node_set) binds ≡ true

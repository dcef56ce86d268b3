-- The computed expressions of a form (XForms 1.1, section 6.1): each is the expression that a text is, and static. d is the number of
-- decimals.
use Rattle.std.specs.Prelude.{◌≡◌, ℕ, List, [], ◌∷◌, Option, Some, None, Ok}
use Rattle.xf_def_syntax.specs.declared.expr.Expr.{Expr}
use Rattle.xf_def_syntax.specs.declared.form.Bind.{Bind}
use Rattle.xf_name.specs.Bindings.{Bindings}
use Rattle.xf_path.specs.Grammar.{parsed}
use Rattle.xf_path.specs.Static.{static_fault}
use Rattle.xf_form.specs.declared.loaded.Loaded.{Loaded}
use Rattle.xf_form.specs.Loading.{loaded_in}

-- the expression, if there is one, was read from a text, and is static
abbrev pub IsReadStatic : ℕ → Bindings → Option Expr → Type 0
IsReadStatic d b None = Unit {0}
IsReadStatic d b (Some expr) = (text : List ℕ) × (parsed d b text ≡ Ok expr) × (static_fault expr ≡ None)

pub record AreReadStatic (d : ℕ) (b : Bindings) (bind : Bind) : Type 0 where
  pub node_set : IsReadStatic d b (Some bind.node_set)
  pub calculate : IsReadStatic d b bind.properties.calculate
  pub relevant : IsReadStatic d b bind.properties.relevant
  pub readonly : IsReadStatic d b bind.properties.readonly
  pub required : IsReadStatic d b bind.properties.required
  pub constraint : IsReadStatic d b bind.properties.constraint

abbrev pub AllReadStatic : ℕ → Bindings → List Bind → Type 0
AllReadStatic d b [] = Unit {0}
AllReadStatic d b (bind ∷ binds) = AreReadStatic d b bind × AllReadStatic d b binds

-- so it is in a form that is loaded
abbrev pub LoadedStatic : Type 0
LoadedStatic = (bytes : List ℕ) (loaded : Loaded) → loaded_in bytes ≡ Ok loaded → AllReadStatic loaded.form.decimals loaded.prefixes loaded.form.tables.binds

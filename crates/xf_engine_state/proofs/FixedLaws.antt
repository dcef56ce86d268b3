-- The binds of a form that is loaded are fixed.
use Rattle.std.proofs.Common.{◌≡◌, ℕ, Bool, true, false, ◌&&◌, List, [], ◌∷◌, Option, Some, None, refl}
use Rattle.std.specs.List.{list_all}
use Rattle.xf_name.specs.Bindings.{Bindings}
use Rattle.xf_def_syntax.specs.declared.expr.Expr.{Expr}
use Rattle.xf_def_syntax.specs.declared.form.Bind.{Bind}
use Rattle.xf_law_static.proofs.CoveredLemmas.ReaderLaw.{read_as_made}
use Rattle.xf_law_static.proofs.FixedLemmas.FixedLaw.{static_fixed}
use Rattle.xf_form.specs.Computed.{AllReadStatic, AreReadStatic, IsReadStatic}
use Rattle.xf_form.specs.declared.loaded.Loaded.{Loaded}
use Rattle.xf_form.proofs.StaticLaw.{loaded_static}
use Rattle.xf_binds_rebuild.specs.Static.{AreFixed, fixed_if, is_fixed_bind}
use Rattle.xf_engine_state.specs.Parts.{IsLoaded}

both : (a b : Bool) → a ≡ true → b ≡ true → (a && b) ≡ true
both true b e f = f
both false b e f = cc e

fixed : (d : ℕ) (b : Bindings) (o : Option Expr) → IsReadStatic d b o → fixed_if o ≡ true
fixed d b None h = refl
fixed d b (Some expr) h = static_fixed expr (read_as_made d b h.0 expr h.1) h.2

fixed-bind : (d : ℕ) (b : Bindings) (bind : Bind) → AreReadStatic d b bind → is_fixed_bind bind ≡ true
fixed-bind d b bind h =
    both _ _
    (both _ _
    (both _ _ (both _ _ (both _ _ (fixed d b (Some bind.node_set) h.node_set) (fixed d b bind.properties.calculate h.calculate)) (fixed d b bind.properties.relevant h.relevant))
    (fixed d b bind.properties.readonly h.readonly))
    (fixed d b bind.properties.required h.required))
    (fixed d b bind.properties.constraint h.constraint)

all-fixed : (d : ℕ) (b : Bindings) (binds : List Bind) → AllReadStatic d b binds → list_all is_fixed_bind binds ≡ true
all-fixed d b [] h = refl
all-fixed d b (bind ∷ binds) h = both _ _ (fixed-bind d b bind h.0) (all-fixed d b binds h.1)

pub are-fixed : (l : Loaded) → IsLoaded l → AreFixed l.form.tables.binds
are-fixed l is = all-fixed l.form.decimals l.prefixes l.form.tables.binds (loaded_static is.bytes l is.read)

-- The texts of a model that is built may be settled.
use Rattle.std.proofs.Common.{◌≡◌, ℕ, ◌^◌, ◌<◌, true, List, [], ◌∷◌, Option, Some, None, refl}
use Rattle.xf_name.specs.Bindings.{Bindings}
use Rattle.xf_def_syntax.specs.declared.expr.Expr.{Expr}
use Rattle.xf_def_syntax.specs.declared.form.Bind.{Bind}
use Rattle.xf_def_forest.specs.Forest.{Forest}
use Rattle.xf_def_forest.specs.WellFormed.{HasTrees}
use Rattle.xf_def_model.specs.Pertinent.{AllOf}
use Rattle.xf_law_recalculation.specs.Agree.FormSettles.{AreCovered}
use Rattle.xf_law_recalculation.proofs.AgreeLemmas.HungLaws.{hung_forest}
use Rattle.xf_law_recalculation.specs.Agree.Hung.{are_hung}
use Rattle.xf_law_static.specs.Covered.AsRead.{IsReadStatic}
use Rattle.xf_law_static.proofs.CoveredLemmas.FormLaw.{form_covered}
use Rattle.xf_binds.specs.Kept.{Kept}
use Rattle.xf_recalc.specs.Settles.{MaySettle}
use Rattle.xf_form.specs.Computed.{AllReadStatic}
use Rattle.xf_form.specs.Computed as loader
use Rattle.xf_form.specs.declared.loaded.Loaded.{Loaded}
use Rattle.xf_form.proofs.StaticLaw.{loaded_static}
use Rattle.xf_engine_state.specs.Around.{given_in}
use Rattle.xf_binds_rebuild.specs.Built.{IsBuilt}
use Rattle.xf_engine_state.specs.Built.{scope_at}
use Rattle.xf_engine_state.specs.Parts.{IsLoaded}
use Rattle.xf_engine_state.proofs.SolidLaws.{documents-solid}
use Rattle.xf_engine_state.proofs.SurroundLaws.{surrounds}

read-static : (d : ℕ) (b : Bindings) (binds : List Bind) → AllReadStatic d b binds → AllOf (λ (bind : Bind). IsReadStatic d b bind.properties.calculate) binds
read-static d b [] h = tt
read-static d b (bind ∷ binds) h = (by bind.properties.calculate h.0.calculate, read-static d b binds h.1)
  where
    by : (o : Option Expr) → loader.IsReadStatic d b o → IsReadStatic d b o
    by None i = i
    by (Some expr) i = i

pub are-covered : (l : Loaded) → IsLoaded l → AreCovered l.form.tables
are-covered l is = form_covered l.form.decimals l.prefixes l.form.tables (read-static l.form.decimals l.prefixes l.form.tables.binds (loaded_static is.bytes l is.read))

pub may-settle : (l : Loaded) (forest : Forest) (model : ℕ) (k : Kept) → IsLoaded l → HasTrees forest → are_hung forest.nodes ≡ true → forest.next < 2 ^ 126 → IsBuilt (scope_at l forest model) forest.nodes k
    → MaySettle (given_in l.form.tables.instances l.prefixes l.form.decimals forest) l.form.tables model forest k.entries
may-settle l forest model k is trees hung small built = record {
  covered = are-covered l is;
  around = surrounds l forest model trees hung small;
  applies = built.applies;
  acyclic = built.acyclic;
  documents = documents-solid forest trees (hung_forest forest trees hung) l.form.tables.instances;
  no_event = refl;
  small = small;
}

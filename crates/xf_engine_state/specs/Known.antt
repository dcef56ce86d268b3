-- What is known of the last recalculation of a model (XForms 1.1, section 4.3.2 and appendix C): how the data of now stand beside those that it
-- left, by what the table keeps of it and what was marked since. So entries that are not pertinent may be passed over in the next one.
use Rattle.std.specs.Prelude.{ℕ, ◌≡◌, ◌<◌, ◌==◌, Bool, true, false, List, [], length, Option, Some, None, slice_get}
use Rattle.xf_def_forest.specs.Changes.{in_detached}
use Rattle.xf_def_forest.specs.Forest.{Forest}
use Rattle.xf_def_model.specs.Rules.{Scope}
use Rattle.xf_def_model.specs.Applied.{Entry}
use Rattle.xf_def_model.specs.Entries.{is_computed}
use Rattle.xf_def_model.specs.Settled.{bounds}
use Rattle.xf_def_model.specs.Pertinent.{AllOf}
use Rattle.xf_law_recalculation.specs.Agree.Settles.{IsSolid}
use Rattle.xf_law_recalculation.specs.Marks.Instances.{standing}
use Rattle.xf_law_recalculation.specs.Marks.Outside.{IsOutside}
use Rattle.xf_law_recalculation.specs.Change.Carried.{Carried}
use Rattle.xf_law_recalculation.specs.Since.Since.{Before, Stood}
use Rattle.xf_binds.specs.Kept.{Kept}
use Rattle.xf_binds.specs.Table.{kept_at}
use Rattle.xf_recalc_pertinent.specs.OfTable.{changes_in}
use Rattle.xf_recalc.specs.Passes.{is_passed}
use Rattle.xf_form.specs.declared.loaded.Loaded.{Loaded}
use Rattle.xf_engine_state.specs.Built.{scope_at}

-- the data as they were then, and what of them stands now
pub record IsRemembered (scope : Scope) (forest : Forest) (k : Kept) : Type 0 where
  pub f : ℕ → ℕ
  pub taken : ℕ → Bool
  pub was : Before
  pub carried : Carried f taken k.texts k.lists scope was.documents forest was.forest
  pub stood : AllOf (Stood f bounds scope was forest) was.stood
  pub same : was.stood ≡ k.stood
  -- no list is marked, and no text is
  pub unlisted : k.lists ≡ []
  pub solid : AllOf (λ n. IsSolid (standing forest) n) k.texts

-- of a model: no tree is detached
pub record IsKnown (l : Loaded) (forest : Forest) (table : List Kept) (model : ℕ) : Type 0 where
  pub there : model < length table
  pub alone : in_detached forest.nodes ≡ []
  pub remembered : IsRemembered (scope_at l forest model) forest (kept_at table model)

-- of the model that is told
abbrev pub Knows : Loaded → Forest → List Kept → Option ℕ → Type 0
Knows l forest table None = Unit {0}
Knows l forest table (Some model) = IsKnown l forest table model

-- ---- marks that stay

pub record HasMarks (j k : Kept) : Type 0 where
  pub stood : k.stood ≡ j.stood
  pub texts : k.texts ≡ j.texts
  pub lists : k.lists ≡ j.lists

abbrev pub KeepsMarks : List Kept → List Kept → Type 0
KeepsMarks before after = (model : ℕ) → HasMarks (kept_at before model) (kept_at after model)

-- ---- what may be passed over

-- an entry that is not pertinent, where the last recalculation is known
pub record MayPass (l : Loaded) (forest : Forest) (model : ℕ) (k : Kept) (e : Entry) : Type 0 where
  pub alone : in_detached forest.nodes ≡ []
  pub remembered : IsRemembered (scope_at l forest model) forest k
  pub outside : IsOutside (scope_at l forest model) forest (changes_in k) k.entries e

-- those that are not marked may be passed over
abbrev pub MayBePassed : Loaded → Forest → ℕ → Kept → List Bool → Type 0
MayBePassed l forest model k marks =
    (place : ℕ) (e : Entry) → slice_get k.entries place ≡ Some e → is_passed marks place ≡ true → is_computed e ≡ true → MayPass l forest model k e

abbrev pub is_of : Option ℕ → ℕ → Bool
is_of None model = false
is_of (Some known) model = known == model

-- the marks of the pertinent entries, where it is known; or else none, so that each entry is evaluated
abbrev pub marks_if : Bool → List Bool → List Bool
marks_if true marks = marks
marks_if false marks = []

-- a text that was set is another one, of a node in an instance of the model, where it is marked; or it stood there
abbrev pub IsMarkedOrStood : Bool → Option ℕ → Bool → ℕ → Type 0
IsMarkedOrStood true holder stood model = holder ≡ Some model
IsMarkedOrStood false holder stood model = stood ≡ true

-- what is known still
abbrev pub IsKnownStill : Option ℕ → Option ℕ → Bool → Bool → Option ℕ → Type 0
IsKnownStill known holder other stood None = Unit {0}
IsKnownStill known holder other stood (Some model) = (known ≡ Some model) × IsMarkedOrStood other holder stood model

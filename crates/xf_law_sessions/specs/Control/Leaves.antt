-- Between refreshes (XForms 1.1, section 4.3.4) what is shown of a form is what would be shown now, or a refresh of a model is due: so it is of a state
-- where none is due, and no change takes this away. Detached trees do not count.
use Rattle.std.specs.Prelude.{ℕ, ◌≡◌, ◌<◌, false, List, [], length, Option, Some, None, Ok}
use Rattle.xf_def_forest.specs.declared.content.Content.{Content}
use Rattle.xf_def_forest.specs.Changes.{in_instances}
use Rattle.xf_def_forest.specs.Forest.{has_number}
use Rattle.xf_def_forest.specs.WellFormed.{HasTrees}
use Rattle.xf_law_forests.specs.Root.Roots.{AreAhead, IsNoRoot}
use Rattle.xf_law_forests.specs.Rollback.Made.{IsGrowth}
use Rattle.xf_def_ui.specs.Copies.{Copy}
use Rattle.xf_def_machine.specs.Primitives.{in_model, refresh_due, set_text, copy, plant, attach}
use Rattle.xf_def_machine.specs.Profile.{Profile}
use Rattle.xf_def_machine.specs.Properties.{values_in, valid_in}
use Rattle.xf_def_machine.specs.State.{State}
use Rattle.xf_def_machine.specs.Surround.{model_holding}
use Rattle.xf_def_machine.specs.Update.{is_refresh_due, reindex, shown, refresh_cleared, all_cleared}
use Rattle.xf_law_sessions.specs.Same.Controls.{HasForm}
use Rattle.xf_law_sessions.specs.Outcome.Indexes.{IsNumbered}
use Rattle.xf_law_sessions.specs.Shown.Brought.{HasIndexes}
use Rattle.xf_law_sessions.specs.Shown.Constructed.{IsShown}
use Rattle.xf_law_sessions.specs.Shown.Shown.{dropped}

-- no refresh is due, unless the form shows what there is
abbrev pub ShowsNow : Profile → State → Type 0
ShowsNow p s = is_refresh_due s ≡ false → IsShown p (dropped s)

-- what is shown is made of the same in both states
pub record ShowsSame (s t : State) : Type 0 where
  pub form : s.form ≡ t.form
  pub nodes : in_instances s.forest.nodes ≡ in_instances t.forest.nodes
  pub indexes : s.indexes ≡ t.indexes
  pub cases : s.cases ≡ t.cases
  pub controls : s.controls ≡ t.controls
  pub values : values_in s ≡ values_in t
  pub valid : (n : ℕ) → valid_in s n ≡ valid_in t n

-- after a change a refresh is due, or none was before and what is shown is made of the same
pub record Leaves (s t : State) : Type 0 where
  pub due : is_refresh_due t ≡ false → is_refresh_due s ≡ false
  pub same : is_refresh_due t ≡ false → ShowsSame s t

abbrev pub LeavesShown : Type 0
LeavesShown = (p : Profile) (s t : State) → HasForm s.form → Leaves s t → ShowsNow p s → ShowsNow p t

abbrev pub LeavesFurther : Type 0
LeavesFurther = (s t u : State) → Leaves s t → Leaves t u → Leaves s u

-- ---- the changes of data

-- the node stands in an instance of a model, or in none
abbrev pub IsHeldOrOut : ℕ → State → Option ℕ → Type 0
IsHeldOrOut n s (Some model) = model < length s.models
IsHeldOrOut n s None = has_number n (in_instances s.forest.nodes) ≡ false

pub record ChangeLaws (p : Profile) : Type 0 where
  pub text : (n : ℕ) (text : List ℕ) (s t : State) → IsHeldOrOut n s (model_holding s n) → set_text p n text s ≡ Ok t → Leaves s t
  pub copy : (n : ℕ) (s t : State) (top : ℕ) → IsNoRoot n s.forest → copy p n s ≡ Ok (top, t) → Leaves s t
  pub plant : (contents : List (ℕ × Content)) (s t : State) (top : ℕ) → IsGrowth contents → plant p contents s ≡ Ok (top, t) → Leaves s t
  -- a detached tree comes
  pub attach : (n parent place : ℕ) (s t : State) → AreAhead s.forest.nodes → has_number n (in_instances s.forest.nodes) ≡ false → IsHeldOrOut parent s (model_holding s parent)
      → attach p n parent place s ≡ Ok t → Leaves s t

abbrev pub DataLeave : Type 0
DataLeave = (p : Profile) → ChangeLaws p

-- ---- indexes, cases, and a refresh that is due

abbrev pub RefreshDueLeaves : Type 0
RefreshDueLeaves = (model : ℕ) (s t : State) → model < length t.models → Leaves s (in_model refresh_due model t)

-- ---- the refresh

-- after a refresh the form shows what there is, whatever was before
abbrev pub RefreshShows : Type 0
RefreshShows = (p : Profile) (before s : State) (list : List Copy) → IsNumbered before.form → HasIndexes before → HasTrees before.forest → AreAhead before.forest.nodes
    → reindex p [] before ≡ Ok s → shown p s ≡ Ok list
    → IsShown p (dropped (all_cleared (record s { controls = list }))) × ((model : ℕ) → IsShown p (dropped (refresh_cleared model (record s { controls = list }))))

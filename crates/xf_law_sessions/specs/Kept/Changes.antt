-- What the last rebuild of each model gave stays what a rebuild gives through each change of the data, unless the change makes a rebuild due (XForms
-- 1.1, sections 4.3.1, 10.2 to 10.4 and 4.3.7).
use Rattle.std.specs.Prelude.{ℕ, ◌≡◌, List, Ok}
use Rattle.xf_def_syntax.specs.declared.form.Tables.{Tables}
use Rattle.xf_def_forest.specs.declared.content.Content.{Content}
use Rattle.xf_def_forest.specs.Needs.{IsSettable, MayPlace}
use Rattle.xf_law_forests.specs.Rollback.Made.{IsGrowth}
use Rattle.xf_law_forests.specs.Root.Roots.{IsNoRoot}
use Rattle.xf_def_machine.specs.Flow.{Run}
use Rattle.xf_def_machine.specs.Primitives.{attach, copy, detach, in_model, plant, refresh_due, set_text}
use Rattle.xf_def_machine.specs.Behave.{rebuild, revalidate}
use Rattle.xf_def_machine.specs.Profile.{Profile}
use Rattle.xf_def_machine.specs.State.{State}
use Rattle.xf_def_machine.specs.Update.{all_cleared, refresh_cleared}
use Rattle.xf_law_sessions.specs.Kept.Kept.{AreEntered, HasBinds, HasNodes}

-- from one state to the other, both with data of a form
pub record Passes (tables : Tables) (s t : State) : Type 0 where
  pub binds : HasBinds tables s.form
  pub before : HasNodes s.forest
  pub after : HasNodes t.forest

-- a change that may be made
abbrev pub KeepsEntered : Profile → Tables → (State → Type 0) → Run → Type 0
KeepsEntered p tables may run = (s t : State) → may s → Passes tables s t → AreEntered p s → run s ≡ Ok t → AreEntered p t

pub record EnteredChanges (p : Profile) (tables : Tables) : Type 0 where
  pub text : (n : ℕ) (text : List ℕ) → KeepsEntered p tables (λ s. IsSettable n s.forest) (set_text p n text)
  pub copied : (n m : ℕ) (s t : State) → IsNoRoot n s.forest → Passes tables s t → AreEntered p s → copy p n s ≡ Ok (m, t) → AreEntered p t
  pub planted : (contents : List (ℕ × Content)) (m : ℕ) (s t : State) → IsGrowth contents → Passes tables s t → AreEntered p s → plant p contents s ≡ Ok (m, t) → AreEntered p t
  pub attached : (n parent place : ℕ) → KeepsEntered p tables (λ s. MayPlace n parent s.forest) (attach p n parent place)
  pub detached : (n : ℕ) → KeepsEntered p tables (λ s. IsNoRoot n s.forest) (λ s. Ok (detach n s))
  -- after its rebuild a model is so
  pub rebuilt : (model : ℕ) → KeepsEntered p tables (λ s. Unit {0}) (rebuild p model)
  pub revalidated : (model : ℕ) → KeepsEntered p tables (λ s. Unit {0}) (λ s. Ok (revalidate p model s))
  pub refresh_due : (model : ℕ) → KeepsEntered p tables (λ s. Unit {0}) (λ s. Ok (in_model refresh_due model s))
  pub cleared : (model : ℕ) → KeepsEntered p tables (λ s. Unit {0}) (λ s. Ok (refresh_cleared model s))
  pub all_cleared : KeepsEntered p tables (λ s. Unit {0}) (λ s. Ok (all_cleared s))

abbrev pub EnteredThroughChanges : Type 0
EnteredThroughChanges = (p : Profile) (tables : Tables) → EnteredChanges p tables

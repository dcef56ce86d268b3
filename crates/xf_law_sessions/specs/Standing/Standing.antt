-- What the behaviours of each model gave stays what they would give now through each change of the data, unless the change makes them due (XForms 1.1,
-- sections 4.3.1 to 4.3.3).
use Rattle.std.specs.Prelude.{ℕ, ◌≡◌, ◌<◌, false, List, length, Ok}
use Rattle.xf_def_syntax.specs.declared.form.Tables.{Tables}
use Rattle.xf_def_forest.specs.declared.content.Content.{Content}
use Rattle.xf_def_forest.specs.Needs.{IsSettable, MayPlace}
use Rattle.xf_law_forests.specs.Rollback.Made.{IsGrowth}
use Rattle.xf_law_forests.specs.Root.Roots.{IsNoRoot}
use Rattle.xf_def_machine.specs.Behave.{model_at, rebuild, revalidate}
use Rattle.xf_def_machine.specs.Flow.{Run}
use Rattle.xf_def_machine.specs.Primitives.{attach, copy, detach, in_model, plant, refresh_due, set_text}
use Rattle.xf_def_machine.specs.Profile.{Profile}
use Rattle.xf_def_machine.specs.State.{State}
use Rattle.xf_law_machine.specs.Behaviours.Chain.{AreChained, NoneBefore}
use Rattle.xf_law_sessions.specs.Kept.Changes.{Passes}
use Rattle.xf_law_sessions.specs.Kept.Kept.{AreEntered}
use Rattle.xf_law_sessions.specs.Kept.Settled.{IsRecalculated}
use Rattle.xf_law_sessions.specs.Kept.Valid.{IsRevalidated}

-- of each model what its behaviours gave, unless they are due
pub record AreStanding (p : Profile) (s : State) : Type 0 where
  pub chained : AreChained s
  pub entered : AreEntered p s
  pub recalculated : (model : ℕ) → model < length s.models → (model_at s model).flags.recalculate ≡ false → IsRecalculated p s model (model_at s model)
  pub revalidated : (model : ℕ) → model < length s.models → (model_at s model).flags.revalidate ≡ false → IsRevalidated p s model (model_at s model)

-- a change that may be made
abbrev pub KeepsStanding : Profile → Tables → (State → Type 0) → Run → Type 0
KeepsStanding p tables may run = (s t : State) → may s → Passes tables s t → AreStanding p s → run s ≡ Ok t → AreStanding p t

pub record StandingChanges (p : Profile) (tables : Tables) : Type 0 where
  pub text : (n : ℕ) (text : List ℕ) → KeepsStanding p tables (λ s. IsSettable n s.forest) (set_text p n text)
  pub copied : (n m : ℕ) (s t : State) → IsNoRoot n s.forest → Passes tables s t → AreStanding p s → copy p n s ≡ Ok (m, t) → AreStanding p t
  pub planted : (contents : List (ℕ × Content)) (m : ℕ) (s t : State) → IsGrowth contents → Passes tables s t → AreStanding p s → plant p contents s ≡ Ok (m, t) → AreStanding p t
  pub attached : (n parent place : ℕ) → KeepsStanding p tables (λ s. MayPlace n parent s.forest) (attach p n parent place)
  pub detached : (n : ℕ) → KeepsStanding p tables (λ s. IsNoRoot n s.forest) (λ s. Ok (detach n s))
  pub refresh_due : (model : ℕ) → KeepsStanding p tables (λ s. Unit {0}) (λ s. Ok (in_model refresh_due model s))
  -- a rebuild that is not due gives what stands
  pub rebuilt : (model : ℕ) → KeepsStanding p tables (λ s. Unit {0}) (rebuild p model)
  -- after its revalidation a model has what it found
  pub revalidated : (model : ℕ) → KeepsStanding p tables (NoneBefore model) (λ s. Ok (revalidate p model s))

abbrev pub StandingThroughChanges : Type 0
StandingThroughChanges = (p : Profile) (tables : Tables) → StandingChanges p tables

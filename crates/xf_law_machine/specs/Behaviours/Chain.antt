-- The behaviours that are due (XForms 1.1, section 4.3): one that is due carries those after it, in each model and after each change.
use Rattle.std.specs.Prelude.{ℕ, ◌≡◌, true, false, List, Ok}
use Rattle.xf_def_model.specs.Pertinent.{AllOf}
use Rattle.xf_def_machine.specs.declared.note.Note.{Note}
use Rattle.xf_def_machine.specs.Profile.{Profile}
use Rattle.xf_def_machine.specs.State.{Flags, State}
use Rattle.xf_def_machine.specs.Flow.{Run}
use Rattle.xf_def_machine.specs.Primitives.{spend, set_text, attach, detach, add_note, in_model, refresh_due}
use Rattle.xf_def_machine.specs.Behave.{model_at, rebuild, recalculate, revalidate}
use Rattle.xf_def_machine.specs.Update.{reindex}

pub record IsChained (f : Flags) : Type 0 where
  pub rebuild : f.rebuild ≡ true → f.recalculate ≡ true
  pub recalculate : f.recalculate ≡ true → f.revalidate ≡ true
  pub revalidate : f.revalidate ≡ true → f.refresh ≡ true

abbrev pub AreChained : State → Type 0
AreChained s = AllOf (λ m. IsChained m.flags) s.models

-- a change after which they are so where they were before
abbrev pub Keeps : Run → Type 0
Keeps run = (s t : State) → AreChained s → run s ≡ Ok t → AreChained t

-- where these behaviours of the model are not due
abbrev pub KeepsAfter : (State → Type 0) → Run → Type 0
KeepsAfter before run = (s t : State) → before s → AreChained s → run s ≡ Ok t → AreChained t

abbrev pub NoRebuild : ℕ → State → Type 0
NoRebuild model s = (model_at s model).flags.rebuild ≡ false

pub record NoneBefore (model : ℕ) (s : State) : Type 0 where
  pub rebuild : (model_at s model).flags.rebuild ≡ false
  pub recalculate : (model_at s model).flags.recalculate ≡ false

pub record ChainLaws (p : Profile) : Type 0 where
  pub spend : Keeps spend
  pub set_text : (n : ℕ) (text : List ℕ) → Keeps (set_text p n text)
  pub attach : (n parent place : ℕ) → Keeps (attach p n parent place)
  pub detach : (n : ℕ) → Keeps (λ s. Ok (detach n s))
  pub add_note : (note : Note) → Keeps (add_note p note)
  pub refresh_due : (model : ℕ) → Keeps (λ s. Ok (in_model refresh_due model s))
  pub reindex : (added : List ℕ) → Keeps (reindex p added)
  pub rebuild : (model : ℕ) → Keeps (rebuild p model)
  pub recalculate : (model : ℕ) → KeepsAfter (NoRebuild model) (recalculate p model)
  pub revalidate : (model : ℕ) → KeepsAfter (NoneBefore model) (λ s. Ok (revalidate p model s))

abbrev pub FlagsStayChained : Type 0
FlagsStayChained = (p : Profile) → ChainLaws p

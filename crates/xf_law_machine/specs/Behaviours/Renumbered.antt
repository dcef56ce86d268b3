-- Changes that take states which are the same but for the numbers of nodes to such states again, or refuse both for the same reason.
use Rattle.std.specs.Prelude.{ℕ, ◌≡◌, Result, Ok, Err}
use Rattle.xf_def_machine.specs.declared.note.Note.{Note}
use Rattle.xf_def_machine.specs.Profile.{Profile}
use Rattle.xf_def_machine.specs.State.{State}
use Rattle.xf_def_machine.specs.Refusal.{Refused}
use Rattle.xf_def_machine.specs.Flow.{Run}
use Rattle.xf_def_machine.specs.Primitives.{spend, in_model, texts_due, refresh_due, set_case, add_note}
use Rattle.xf_def_machine.specs.Same.{IsSame}

abbrev pub AreSame : Result State Refused → Result State Refused → Type 0
AreSame (Ok s) (Ok t) = IsSame s t
AreSame (Err r) (Err q) = r ≡ q
AreSame one other = ⊥

abbrev pub KeepsSame : Run → Type 0
KeepsSame run = (s t : State) → IsSame s t → AreSame (run s) (run t)

-- those that neither evaluate nor change the forest
pub record SameLaws (p : Profile) : Type 0 where
  pub spend : KeepsSame spend
  pub add_note : (note : Note) → KeepsSame (add_note p note)
  pub set_case : (switch place : ℕ) → KeepsSame (λ s. Ok (set_case switch place s))
  pub refresh_due : (model : ℕ) → KeepsSame (λ s. Ok (in_model refresh_due model s))
  pub texts_due : (model : ℕ) → KeepsSame (λ s. Ok (in_model texts_due model s))

abbrev pub StayTheSame : Type 0
StayTheSame = (p : Profile) → SameLaws p

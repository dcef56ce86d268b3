-- What an event leaves for the outside, its notes and the calls of the store, stands beside the rest of the state of the form machine: a change
-- of the data, of what models keep or of the controls does not look at it and does not touch it, and a refusal tells the calls that stand there.
use Rattle.std.specs.Prelude.{◌≡◌, List, Result, Ok, Err}
use Rattle.xf_store.specs.declared.call.StoreCall.{StoreCall}
use Rattle.xf_def_machine.specs.declared.note.Note.{Note}
use Rattle.xf_def_machine.specs.State.{State}
use Rattle.xf_def_machine.specs.Refusal.{Refused}
use Rattle.xf_def_machine.specs.Flow.{Run}

pub record Beside : Type 0 where
  pub notes : List Note
  pub calls : List StoreCall

-- what a state has there
abbrev pub beside_of : State → Beside
beside_of s = record { notes = s.notes; calls = s.calls }

-- a state with this in that place
abbrev pub beside : Beside → State → State
beside b s = record s { notes = b.notes; calls = b.calls }

-- a refusal with these calls
abbrev pub refused_beside : Beside → Refused → Refused
refused_beside b r = record { why = r.why; calls = b.calls }

-- what a change gives
abbrev pub besides : Beside → Result State Refused → Result State Refused
besides b (Ok t) = Ok (beside b t)
besides b (Err r) = Err (refused_beside b r)

-- what is read: the value is the same
abbrev pub read_beside : {X : Type 0} → Beside → Result X Refused → Result X Refused
read_beside b (Ok x) = Ok x
read_beside b (Err r) = Err (refused_beside b r)

-- what a change gives that gives a value too
abbrev pub made_beside : {X : Type 0} → Beside → Result (X × State) Refused → Result (X × State) Refused
made_beside b (Ok (x, t)) = Ok (x, beside b t)
made_beside b (Err r) = Err (refused_beside b r)

-- ---- what does not look there

abbrev pub GoesBeside : Run → Type 0
GoesBeside run = (b : Beside) (s : State) → run (beside b s) ≡ besides b (run s)

-- of a change that is never refused
abbrev pub TurnsBeside : (State → State) → Type 0
TurnsBeside change = (b : Beside) (s : State) → change (beside b s) ≡ beside b (change s)

abbrev pub ReadsBeside : {X : Type 0} → (State → Result X Refused) → Type 0
ReadsBeside read = (b : Beside) (s : State) → read (beside b s) ≡ read_beside b (read s)

abbrev pub MakesBeside : {X : Type 0} → (State → Result (X × State) Refused) → Type 0
MakesBeside change = (b : Beside) (s : State) → change (beside b s) ≡ made_beside b (change s)

-- of what is read and never refused
abbrev pub SameBeside : {X : Type 0} → (State → X) → Type 0
SameBeside read = (b : Beside) (s : State) → read (beside b s) ≡ read s

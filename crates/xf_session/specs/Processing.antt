-- What a processor makes of an event and of the start, as the form machine says it. Only want of memory is free.
use Rattle.std.specs.Prelude.{◌≡◌, IsSome, ℕ, true, List, [], ◌++◌, Option, Some, None, IsSome, Result, Ok, Err}
use Rattle.xf_store.specs.declared.answers.Answer.{Answer}
use Rattle.xf_store.specs.declared.call.StoreCall.{StoreCall}
use Rattle.xf_store.specs.Called.{Called, Told}
use Rattle.xf_store.specs.Replay.{Covers}
use Rattle.xf_def_machine.specs.declared.refusal.Refusal.{Refusal}
use Rattle.xf_def_machine.specs.State.{State}
use Rattle.xf_def_machine.specs.Replies.{answers_in, note_lines, ok_text}
use Rattle.xf_def_machine.specs.Start.{readied}
use Rattle.xf_def_machine.specs.Step.{Posted, Outcome, accepted, refused, outcome, at_end}
use Rattle.xf_def_machine.specs.Told.{Tells}
use Rattle.xf_def_form.specs.Formed.{profile}
use Rattle.xf_actions.specs.declared.fault.EventFault.{EventFault}
use Rattle.xf_actions.specs.declared.fault.EventFault.TheVariants.{Refused, Memory}

-- what is given back after an event: the state before it, where it is pending
abbrev pub kept_after : Result Unit EventFault → State → Option State
kept_after (Ok done) before = Some before
kept_after (Err fault) before = None

-- with this state after it, and these calls of the store
pub record IsAccepted (given : Outcome) (after : State) (made : List StoreCall) (posted : Posted) : Type 0 where
  pub is : given ≡ accepted after posted
  pub calls : posted.calls ≡ made

-- it is refused for this reason, after these calls of the store
abbrev pub IsRefusedAfter : Refusal → List StoreCall → Outcome → Type 0
IsRefusedAfter refusal made (accepted after posted) = ⊥
IsRefusedAfter refusal made (refused why calls) = Tells refusal why × (calls ≡ made)

-- ---- an event

-- the lines of an accepted one are appended to a text; after a refusal the state is as it was
abbrev pub IsPosted : Result Unit EventFault → State → State → List StoreCall → List ℕ → List ℕ → Outcome → Type 0
IsPosted (Ok done) before after made old new given = (posted : Posted) × IsAccepted given after made posted × (new ≡ old ++ ok_text true after posted)
IsPosted (Err (Refused refusal)) before after made old new given = IsRefusedAfter refusal made given × (after ≡ before)
IsPosted (Err Memory) before after made old new given = after ≡ before

-- these calls the event made of the store, and it is what the machine does over all answers that give these calls what they got
pub record Posts (result : Result Unit EventFault) (before after : State) (calls : List StoreCall) (first last : Told) (old new : List ℕ) (given : List Answer → Outcome) : Type 0 where
  pub made : List StoreCall
  pub called : Called first last [] made
  pub own : Covers (answers_in made) made
  pub pending : result ≡ Ok tt → calls ≡ made
  pub is : (answers : List Answer) → Covers answers made → IsPosted result before after made old new (given answers)

-- ---- the start

-- of a form that is constructed, over these answers of the store
abbrev pub started : State → List Answer → Outcome
started first answers = outcome (at_end profile) (readied profile answers first)

-- the lines of its notes are appended to a text
abbrev pub IsStarted : {P : Type 0} → (P → State) → Result P EventFault → List StoreCall → List ℕ → List ℕ → Outcome → Type 0
IsStarted state (Ok p) made old new given = (posted : Posted) × IsAccepted given (state p) made posted × (new ≡ old ++ note_lines posted.notes)
IsStarted state (Err (Refused refusal)) made old new given = IsRefusedAfter refusal made given
IsStarted state (Err Memory) made old new given = Unit {0}

-- these calls it made of the store, and it is what the machine does over all answers that give these calls what they got
pub record StartsAlone {P : Type 0} (state : P → State) (result : Result P EventFault) (before : State) (first last : Told) (old new : List ℕ) : Type 0 where
  pub made : List StoreCall
  pub called : Called first last [] made
  pub own : Covers (answers_in made) made
  pub is : (answers : List Answer) → Covers answers made → IsStarted state result made old new (started before answers)

-- what of it is pending
abbrev pub IsPending : {P : Type 0} → (P → Option State) → (P → List StoreCall) → Result P EventFault → List StoreCall → Type 0
IsPending kept calls (Ok p) made = IsSome (kept p) × (calls p ≡ made)
IsPending kept calls (Err fault) made = Unit {0}

-- these calls it made of the store, and it is what the machine does over all answers that give these calls what they got
pub record Starts {P : Type 0} (state : P → State) (kept : P → Option State) (calls : P → List StoreCall) (result : Result P EventFault) (before : State) (first last : Told)
    (old new : List ℕ) : Type 0 where
  pub made : List StoreCall
  pub called : Called first last [] made
  pub own : Covers (answers_in made) made
  pub pending : IsPending kept calls result made
  pub is : (answers : List Answer) → Covers answers made → IsStarted state result made old new (started before answers)

-- How a session is opened or begun.
use Rattle.std.specs.Prelude.{◌≡◌, ◌⊎◌, ℕ, Bool, IsTrue, IfOk, List, [], ◌++◌, Option, Some, None, Result, Ok, Err}
use Rattle.xf_disk.specs.Image.{Image}
use Rattle.xf_disk.specs.Crash.{IsSettled, LeavesAll, LeavesOnly}
use Rattle.xf_store.specs.declared.answers.Answer.{Answer}
use Rattle.xf_store.specs.declared.call.StoreCall.{StoreCall}
use Rattle.xf_store.specs.Called.{Called, Told}
use Rattle.xf_store.specs.Replay.{Covers}
use Rattle.xf_disk.specs.declared.slot.Slot.TheVariants.{A}
use Rattle.xf_journal.specs.declared.journal.Journal.{Journal}
use Rattle.xf_journal.specs.Entry.{is_within}
use Rattle.xf_journal.specs.Held.{Log, held}
use Rattle.xf_journal.specs.Scanned.{IsAtRest, journal_of, new_log}
use Rattle.xf_def_machine.specs.Program.{Program}
use Rattle.xf_def_machine.specs.State.{State}
use Rattle.xf_def_machine.specs.Construct.{construct}
use Rattle.xf_def_machine.specs.Replies.{answers_in, note_lines}
use Rattle.xf_def_machine.specs.Start.{start}
use Rattle.xf_def_machine.specs.Step.{Posted, Outcome}
use Rattle.xf_def_form.specs.Formed.{profile}
use Rattle.xf_def_sessions.specs.Sessions as history
use Rattle.xf_def_sessions.specs.Runs.{Item}
use Rattle.xf_def_sessions.specs.Images.{StandsForNone}
use Rattle.xf_def_sessions.specs.Opening.{Opened, opened, no_session, other_form, damaged}
use Rattle.xf_def_sessions.specs.Usual.{usual}
use Rattle.xf_session.specs.declared.fault.OpenFault.{OpenFault}
use Rattle.xf_session.specs.declared.fault.OpenFault.TheVariants.{Refused, OtherForm, Damaged, NoSession, DiskFault, Memory}
use Rattle.xf_session.specs.declared.session.Session.{Session}
use Rattle.xf_session.specs.Processing.{IsAccepted, IsRefusedAfter}
use Rattle.xf_session.specs.Opening.{opening}
use Rattle.xf_session.specs.Replaying.{start_image}
use Rattle.xf_session.specs.Keeping.{IsSession, KeepsOne, KeepsNoItem}

-- the form with these bytes was constructed, and this state is what that left
pub record IsBuilt (bytes : List ℕ) (program : Program) (first : State) : Type 0 where
  pub form : usual.form_in bytes ≡ Some program
  pub built : construct profile program ≡ Ok first

-- ---- answers, by what opening gives

-- it is in the state of this session, which the slots hold
abbrev pub IsOpened : {P : Type 0} → (P → State) → Opened → Session P → Type 0
IsOpened state found session = (s : history.Session) × (found ≡ opened s) × (state session.processor ≡ s.state)

-- of an opening alone
abbrev pub Resumes : {P : Type 0} → (P → State) → Opened → Result (Session P) OpenFault → Type 0
Resumes state found (Ok session) = IsOpened state found session
Resumes state found (Err (Refused refusal)) = ⊥
Resumes state found (Err (OtherForm at)) = found ≡ other_form at
Resumes state found (Err (Damaged slot at)) = found ≡ damaged slot at
Resumes state found (Err NoSession) = found ≡ no_session
Resumes state found (Err DiskFault) = Unit {0}
Resumes state found (Err Memory) = Unit {0}

-- no call of the store was made, and no note written
pub record IsSilent (made : List StoreCall) (old new : List ℕ) : Type 0 where
  pub calls : made ≡ []
  pub text : new ≡ old

-- the slots hold no session: the form starts, and the lines of its notes are appended to a text
pub record IsNew {P : Type 0} (state : P → State) (found : Opened) (session : Session P) (made : List StoreCall) (old new : List ℕ) (given : Outcome) : Type 0 where
  pub none : found ≡ no_session
  pub posted : Posted
  pub is : IsAccepted given (state session.processor) made posted
  pub text : new ≡ old ++ note_lines posted.notes

abbrev pub Begins : {P : Type 0} → (P → State) → Opened → Result (Session P) OpenFault → List StoreCall → List ℕ → List ℕ → Outcome → Type 0
Begins state found (Ok session) made old new given = (IsOpened state found session × IsSilent made old new) ⊎ IsNew state found session made old new given
Begins state found (Err (Refused refusal)) made old new given = (found ≡ no_session) × IsRefusedAfter refusal made given
Begins state found (Err (OtherForm at)) made old new given = (found ≡ other_form at) × IsSilent made old new
Begins state found (Err (Damaged slot at)) made old new given = (found ≡ damaged slot at) × IsSilent made old new
Begins state found (Err NoSession) made old new given = ⊥
Begins state found (Err DiskFault) made old new given = Unit {0}
Begins state found (Err Memory) made old new given = Unit {0}

-- ---- what crashes leave

-- where each image keeps one of two lists of items, it does so at each moment, and the session is that of the one or of the other
abbrev pub KeepsOnGoing : {P D E : Type 0} → (P → State) → (D → Image) → (D → Image → Type 0) → (D → ℕ) → (D → ℕ → Image → Type 0) → List ℕ
    → Result (Session P) E → D → D → Type 0
KeepsOnGoing state seen may_leave moment left_since bytes result old new =
    (answers : List Answer) (items others : List Item) → LeavesAll (may_leave old) (KeepsOne bytes answers items others)
    → LeavesOnly moment left_since old new (KeepsOne bytes answers items others)
    × IfOk result (λ session. IsSession state seen may_leave bytes answers items session new ⊎ IsSession state seen may_leave bytes answers others session new)

-- where each image keeps no session, or one that has only started, it does so at each moment, and the session has only started
abbrev pub StartsOnce : {P D E : Type 0} → (P → State) → (D → Image) → (D → Image → Type 0) → (D → ℕ) → (D → ℕ → Image → Type 0) → List ℕ
    → Result (Session P) E → D → D → Type 0
StartsOnce state seen may_leave moment left_since bytes result old new =
    LeavesAll (may_leave old) (KeepsNoItem bytes)
    → LeavesOnly moment left_since old new (KeepsNoItem bytes)
    × IfOk result (λ session. (answers : List Answer) × IsSession state seen may_leave bytes answers [] session new)

-- the journal in hand is that of the slots, or the first one of a session that starts with these answers
abbrev pub IsInHand : Image → List ℕ → List Answer → Opened → Option Journal → Log → Type 0
IsInHand image bytes answers found hand log =
    (hand ≡ Some (journal_of log)) × (((s : history.Session) × (found ≡ opened s) × (held image ≡ Ok (Some log))) ⊎ ((found ≡ no_session) × (log ≡ new_log A 1 (start_image bytes answers))))

-- nothing is written but by a new session
abbrev pub Spares : {P : Type 0} → Result P OpenFault → Type 0 → Type 0
Spares (Ok session) fact = Unit {0}
Spares (Err DiskFault) fact = Unit {0}
Spares (Err NoSession) fact = fact
Spares (Err (Refused refusal)) fact = fact
Spares (Err (OtherForm at)) fact = fact
Spares (Err (Damaged slot at)) fact = fact
Spares (Err Memory) fact = fact

-- ---- the whole

-- what opening gives says the answer
pub record ResumesIn {P D : Type 0} (state : P → State) (tells : D → Bool) (seen : D → Image) (may_leave : D → Image → Type 0) (moment : D → ℕ) (left_since : D → ℕ → Image → Type 0)
    (bytes : List ℕ) (program : Program) (result : Result (Session P) OpenFault) (old new : D) : Type 0 where
  pub found : Opened
  pub told : IsTrue (tells old) → found ≡ opening profile bytes program (seen old)
  pub is : Resumes state found result
  pub on : IsTrue (tells old) → KeepsOnGoing state seen may_leave moment left_since bytes result old new
  pub once : IsTrue (tells old) → StartsOnce state seen may_leave moment left_since bytes result old new

-- these calls were made of the store; what opening gives says the answer, for all answers that give these calls what they got
pub record BeginsIn {P D : Type 0} (state : P → State) (tells : D → Bool) (seen : D → Image) (may_leave : D → Image → Type 0) (moment : D → ℕ) (left_since : D → ℕ → Image → Type 0)
    (bytes : List ℕ) (program : Program) (result : Result (Session P) OpenFault) (first last : Told) (old_text new_text : List ℕ) (old new : D) : Type 0 where
  pub made : List StoreCall
  pub called : Called first last [] made
  pub own : Covers (answers_in made) made
  pub found : Opened
  pub told : IsTrue (tells old) → found ≡ opening profile bytes program (seen old)
  pub is : (answers : List Answer) → Covers answers made → Begins state found result made old_text new_text (start profile program answers)
  pub used : IsTrue (tells old) → IfOk result (λ session. (log : Log) × IsInHand (seen old) bytes (answers_in made) found session.journal log)
  pub on : IsTrue (tells old) → KeepsOnGoing state seen may_leave moment left_since bytes result old new
  pub once : IsTrue (tells old) → StartsOnce state seen may_leave moment left_since bytes result old new

-- ---- a start

-- faults of the keeping alone
abbrev pub IsOfKeeping : OpenFault → Type 0
IsOfKeeping (Refused refusal) = ⊥
IsOfKeeping (OtherForm at) = ⊥
IsOfKeeping (Damaged slot at) = ⊥
IsOfKeeping NoSession = ⊥
IsOfKeeping DiskFault = Unit {0}
IsOfKeeping Memory = Unit {0}

-- what the slots held, or the first journal of a session, with answers that a base may have
abbrev pub HoldsOldOrFirst : Image → List ℕ → List Answer → Image → Type 0
HoldsOldOrFirst old form answers image = (held image ≡ held old) ⊎ (IsTrue (is_within [] answers) × (held image ≡ Ok (Some (new_log A 1 (start_image form answers)))))

-- the first journal, at rest on the disk
pub record IsFirst {D : Type 0} (seen : D → Image) (may_leave : D → Image → Type 0) (form : List ℕ) (answers : List Answer) (first : Journal) (disk : D) : Type 0 where
  pub rest : IsAtRest seen may_leave first (new_log A 1 (start_image form answers)) disk
  pub within : IsTrue (is_within [] answers)

-- the same of what a session keeps
abbrev pub IsFirstIn : {D : Type 0} → (D → Image) → (D → Image → Type 0) → List ℕ → List Answer → Option Journal → D → Type 0
IsFirstIn seen may_leave form answers None disk = ⊥
IsFirstIn seen may_leave form answers (Some journal) disk = IsFirst seen may_leave form answers journal disk

-- what a start makes where the slots hold no session
abbrev pub HasStarted : {P : Type 0} → (P → State) → Result (Session P) OpenFault → List StoreCall → List ℕ → List ℕ → Outcome → Type 0
HasStarted state (Ok session) made old new given = (posted : Posted) × IsAccepted given (state session.processor) made posted × (new ≡ old ++ note_lines posted.notes)
HasStarted state (Err (Refused refusal)) made old new given = IsRefusedAfter refusal made given
HasStarted state (Err (OtherForm at)) made old new given = ⊥
HasStarted state (Err (Damaged slot at)) made old new given = ⊥
HasStarted state (Err NoSession) made old new given = ⊥
HasStarted state (Err DiskFault) made old new given = Unit {0}
HasStarted state (Err Memory) made old new given = Unit {0}

-- over two closed slots, of which a crash leaves what a read gives
pub record StartsIn {P D : Type 0} (state : P → State) (tells : D → Bool) (seen : D → Image) (may_leave : D → Image → Type 0) (moment : D → ℕ) (left_since : D → ℕ → Image → Type 0)
    (bytes : List ℕ) (program : Program) (result : Result (Session P) OpenFault) (first last : Told) (old_text new_text : List ℕ) (old new : D) : Type 0 where
  pub made : List StoreCall
  pub called : Called first last [] made
  pub own : Covers (answers_in made) made
  pub is : (answers : List Answer) → Covers answers made → HasStarted state result made old_text new_text (start profile program answers)
  pub goes : IsTrue (tells old) → StandsForNone (seen old) → IsSettled (seen old) (may_leave old) → LeavesOnly moment left_since old new (KeepsNoItem bytes)
  pub begun : IsTrue (tells old) → StandsForNone (seen old) → IsSettled (seen old) (may_leave old)
      → IfOk result (λ session. IsSession state seen may_leave bytes (answers_in made) [] session new)
  pub used : IsTrue (tells old) → StandsForNone (seen old) → IsSettled (seen old) (may_leave old)
      → IfOk result (λ session. session.journal ≡ Some (journal_of (new_log A 1 (start_image bytes (answers_in made)))))

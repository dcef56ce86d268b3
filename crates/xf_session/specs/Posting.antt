-- What a session makes of an event.
use Rattle.std.specs.Prelude.{◌≡◌, ◌≤◌, ◌<◌, ◌+◌, length, ℕ, Bool, true, false, IsSome, IsTrue, List, [], ◌∷◌, ◌++◌, Option, Some, None, Result, Ok, Err}
use Rattle.xf_base.specs.Faults.{Rose}
use Rattle.xf_base.specs.Limits.{used_limit}
use Rattle.xf_disk.specs.Image.{Image}
use Rattle.xf_disk.specs.Crash.{LeavesOnly}
use Rattle.xf_line.specs.declared.event.Event.{Event}
use Rattle.xf_line.specs.declared.event.Asked.TheVariants as asked
use Rattle.xf_line.specs.Line.{asked_by}
use Rattle.xf_store.specs.declared.answers.Answer.{Answer}
use Rattle.xf_store.specs.declared.call.StoreCall.{StoreCall}
use Rattle.xf_store.specs.Called.{Called, Told}
use Rattle.xf_store.specs.Replay.{Covers}
use Rattle.xf_journal.specs.declared.journal.Journal.{Journal}
use Rattle.xf_journal.specs.Entry.{written_bytes}
use Rattle.xf_def_machine.specs.State.{State}
use Rattle.xf_def_machine.specs.Replies.{answers_in, ok_text}
use Rattle.xf_def_machine.specs.Step.{Posted, Outcome}
use Rattle.xf_def_sessions.specs.Runs.{Item, line}
use Rattle.xf_session.specs.declared.fault.PostFault.{PostFault}
use Rattle.xf_session.specs.declared.fault.PostFault.TheVariants.{Refused, NotBuilt, DiskFault, Broken, Memory}
use Rattle.xf_session.specs.declared.session.Session.{Session}
use Rattle.xf_session.specs.Processing.{IsAccepted, IsRefusedAfter}
use Rattle.xf_session.specs.Keeping.{IsSession, KeepsOne, used_in}

-- ---- the answer

-- it is in the state that it was in, with the same journal
pub record IsUnchanged {P : Type 0} (state : P → State) (before after : Session P) : Type 0 where
  pub same : state after.processor ≡ state before.processor
  pub journal : after.journal ≡ before.journal
  pub whole : after.is_broken ≡ before.is_broken

-- the event was handed to who runs the form
pub record IsTried {P : Type 0} (before : Session P) : Type 0 where
  pub whole : before.is_broken ≡ false
  pub room : used_in before.journal ≤ used_limit

-- no event was looked at
pub record IsPassed {P : Type 0} (before after : Session P) (made : List StoreCall) : Type 0 where
  pub same : after ≡ before
  pub calls : made ≡ []

-- the lines of an accepted event are appended to a text; after a fault of the disk it was accepted too, and taken back
abbrev pub IsAnswered : {P : Type 0} → (P → State) → Result Unit PostFault → Session P → Session P → List StoreCall → List ℕ → List ℕ → Outcome → Type 0
IsAnswered state (Ok done) before after made old new given =
    IsTried before × (after.is_broken ≡ false) × ((posted : Posted) × IsAccepted given (state after.processor) made posted × (new ≡ old ++ ok_text true (state after.processor) posted))
IsAnswered state (Err (Refused refusal)) before after made old new given = IsTried before × IsRefusedAfter refusal made given × IsUnchanged state before after
IsAnswered state (Err NotBuilt) before after made old new given = (before.is_broken ≡ false) × (used_limit < used_in before.journal) × IsPassed before after made
IsAnswered state (Err DiskFault) before after made old new given =
    IsTried before × (state after.processor ≡ state before.processor) × (after.is_broken ≡ true) × ((s : State) × (posted : Posted) × IsAccepted given s made posted)
IsAnswered state (Err Broken) before after made old new given = (before.is_broken ≡ true) × IsPassed before after made
IsAnswered state (Err Memory) before after made old new given = IsTried before × IsUnchanged state before after

-- what keeps nothing goes on keeping nothing, with no call of the disk; what keeps goes on so
abbrev pub KeepsAs : {D : Type 0} → Option Journal → Result Unit PostFault → Option Journal → D → D → Type 0
KeepsAs None result after old new = (after ≡ None) × (new ≡ old) × (result ≡ Err DiskFault → ⊥)
KeepsAs (Some journal) result after old new = IsSome after

-- what the keeping of an entry leaves of a session
abbrev pub IsKept : {P D : Type 0} → Session P → Result Unit PostFault → Session P → D → D → Type 0
IsKept before (Ok done) after old new = after ≡ record before { journal = after.journal }
IsKept before (Err (Refused refusal)) after old new = ⊥
IsKept before (Err NotBuilt) after old new = ⊥
IsKept before (Err DiskFault) after old new = after ≡ record before { is_broken = true }
IsKept before (Err Broken) after old new = ⊥
IsKept before (Err Memory) after old new = (after ≡ before) × (new ≡ old)

-- ---- what crashes leave

-- the session after an event: with one item more, or as it was
abbrev pub After : {P D : Type 0} → (P → State) → (D → Image) → (D → Image → Type 0) → List ℕ → List Answer → List Item → Item
    → Result Unit PostFault → Session P → D → Type 0
After state seen may_leave bytes answers items item (Ok done) session disk = IsSession state seen may_leave bytes answers (items ++ item ∷ []) session disk
After state seen may_leave bytes answers items item (Err DiskFault) session disk = session.is_broken ≡ true
After state seen may_leave bytes answers items item (Err fault) session disk = IsSession state seen may_leave bytes answers items session disk

-- at each moment the slots keep the items, or these and the event with the answers that it got
pub record Went {P D : Type 0} (state : P → State) (seen : D → Image) (may_leave : D → Image → Type 0) (moment : D → ℕ) (left_since : D → ℕ → Image → Type 0)
    (bytes : List ℕ) (answers : List Answer) (items : List Item) (item : Item) (result : Result Unit PostFault) (session : Session P) (old new : D) : Type 0 where
  pub each_moment : LeavesOnly moment left_since old new (KeepsOne bytes answers items (items ++ item ∷ []))
  pub after : After state seen may_leave bytes answers items item result session new

-- of whichever session, at a line that asks for the event
abbrev pub GoesOn : {P D : Type 0} → (P → State) → (D → Image) → (D → Image → Type 0) → (D → ℕ) → (D → ℕ → Image → Type 0) → Session P → List ℕ → Event → List Answer
    → Result Unit PostFault → Session P → D → D → Type 0
GoesOn state seen may_leave moment left_since before text event given result after old new =
    (bytes : List ℕ) (answers : List Answer) (items : List Item) → asked_by text ≡ Ok (asked.Event event) → IsSession state seen may_leave bytes answers items before old
    → Went state seen may_leave moment left_since bytes answers items (line event given) result after old new

-- the journal in hand has the entry of an event that was kept
abbrev pub GrowsBy : Option Journal → Option Journal → ℕ → Type 0
GrowsBy None after count = Unit {0}
GrowsBy (Some journal) after count = used_in after ≡ journal.used + count

abbrev pub Grows : {P : Type 0} → Result Unit PostFault → Session P → Session P → List ℕ → List Answer → Type 0
Grows (Ok done) before after text answers = GrowsBy before.journal after.journal (length (written_bytes text answers))
Grows (Err fault) before after text answers = Unit {0}

-- no call of the disk was made, but for an event that is kept
abbrev pub Stays : {D : Type 0} → Result Unit PostFault → D → D → Type 0
Stays (Ok done) before after = Unit {0}
Stays (Err (Refused refusal)) before after = after ≡ before
Stays (Err NotBuilt) before after = after ≡ before
Stays (Err DiskFault) before after = Unit {0}
Stays (Err Broken) before after = after ≡ before
Stays (Err Memory) before after = after ≡ before

-- ---- the whole

-- these calls the event made of the store; for all answers that give them what they got it is answered so; and the slots go on, where the disk tells
pub record PostsIn {P D : Type 0} (state : P → State) (tells : D → Bool) (seen : D → Image) (may_leave : D → Image → Type 0) (moment : D → ℕ) (left_since : D → ℕ → Image → Type 0)
    (before : Session P) (text : List ℕ) (event : Event) (result : Result Unit PostFault) (after : Session P) (first last : Told) (old new : List ℕ)
    (given : List Answer → Outcome) (old_disk new_disk : D) : Type 0 where
  pub made : List StoreCall
  pub called : Called first last [] made
  pub own : Covers (answers_in made) made
  pub is : (answers : List Answer) → Covers answers made → IsAnswered state result before after made old new (given answers)
  pub still : Stays result old_disk new_disk
  pub keeps : KeepsAs before.journal result after.journal old_disk new_disk
  pub grows : IsTrue (tells old_disk) → Grows result before after text (answers_in made)
  pub goes : IsTrue (tells old_disk) → GoesOn state seen may_leave moment left_since before text event (answers_in made) result after old_disk new_disk

-- the disk was at fault where the answer says so
pub record HasPostCause (before now : ℕ) (result : Result Unit PostFault) : Type 0 where
  pub later : before ≤ now
  pub failed : result ≡ Err DiskFault → Rose before now

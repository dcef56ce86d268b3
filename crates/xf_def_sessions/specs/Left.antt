-- What the calls of a journal leave stands for what the session took: so what one call leaves is what the next one needs.
use Rattle.std.specs.Prelude.{ℕ, ◌≡◌, ◌⊎◌, List, [], ◌∷◌, ◌++◌, Some, Ok}
use Rattle.xf_disk.specs.declared.slot.Slot.{Slot}
use Rattle.xf_disk.specs.Image.{Image}
use Rattle.xf_disk.specs.Crash.{IsSettled, LeavesAll, LeavesOnly}
use Rattle.xf_line.specs.declared.event.Event.{Event}
use Rattle.xf_line.specs.declared.event.Asked.TheVariants as asked
use Rattle.xf_line.specs.Line.{asked_by}
use Rattle.xf_store.specs.declared.answers.Answer.{Answer}
use Rattle.xf_journal.specs.declared.image.Image as written
use Rattle.xf_journal.specs.declared.journal.Journal.{Journal}
use Rattle.xf_journal.specs.Held.{Log}
use Rattle.xf_journal.specs.Scanned.{IsAtRest, HoldsEither, with_accepted, new_log}
use Rattle.xf_def_sessions.specs.Sessions.{Machine, Session, snap_of}
use Rattle.xf_def_sessions.specs.Runs.{Item, line, after_line, Ran}
use Rattle.xf_def_sessions.specs.Images.{answers_at_base, snap_at_base, LogStands, Stands}

-- ---- journals

-- after an event is appended: for one item more
abbrev pub AppendedStands : Type 0
AppendedStands = (m : Machine) (bytes : List ℕ) (answers : List Answer) (items : List Item) (s t : Session) (log : Log)
    (text : List ℕ) (event : Event) (given : List Answer)
    → LogStands m bytes answers items s log → asked_by text ≡ Ok (asked.Event event) → after_line m s event given ≡ Some t
    → LogStands m bytes answers (items ++ line event given ∷ []) t (with_accepted log text given)

-- a new journal tells of this session
pub record IsImageOf (s : Session) (image : written.Image) : Type 0 where
  pub form : image.form ≡ s.form
  pub adoptions : image.adoptions ≡ s.adoptions
  pub base : snap_at_base image.base ≡ Some (snap_of s.state)

-- after a snapshot is written: a compaction, or the session after an adoption, an undo or a redo
abbrev pub RenewedStands : Type 0
RenewedStands = (m : Machine) (bytes : List ℕ) (answers : List Answer) (items : List Item) (s : Session) (slot : Slot) (epoch : ℕ) (image : written.Image)
    → Ran m bytes answers items s → IsImageOf s image → LogStands m bytes answers items s (new_log slot epoch image)

-- after a session is begun: for no item
abbrev pub BegunStands : Type 0
BegunStands = (m : Machine) (bytes : List ℕ) (answers : List Answer) (s : Session) (slot : Slot) (epoch : ℕ) (image : written.Image)
    → Ran m bytes answers [] s → image.form ≡ s.form → image.adoptions ≡ s.adoptions → answers_at_base image.base ≡ Some answers
    → LogStands m bytes answers [] s (new_log slot epoch image)

-- a journal that stands for items is that of a session that took them
abbrev pub StandingRan : Type 0
StandingRan = (m : Machine) (bytes : List ℕ) (answers : List Answer) (items : List Item) (s : Session) (log : Log)
    → LogStands m bytes answers items s log → Ran m bytes answers items s

-- ---- disks

-- the journal in hand is that of the slots, and stands for these items
pub record IsIn {D : Type 0} (seen : D → Image) (may_leave : D → Image → Type 0) (m : Machine) (bytes : List ℕ) (answers : List Answer) (items : List Item) (s : Session)
    (journal : Journal) (disk : D) : Type 0 where
  pub log : Log
  pub rest : IsAtRest seen may_leave journal log disk
  pub stands : LogStands m bytes answers items s log

-- each image that a crash may leave stands for one of the two
abbrev pub StandsForOne : Machine → List ℕ → List Answer → List Item → List Item → Image → Type 0
StandsForOne m bytes answers items others image = Stands m bytes answers items image ⊎ Stands m bytes answers others image

-- between calls each image stands for the items
abbrev pub RestStands : {D : Type 0} → (D → Image) → (D → Image → Type 0) → Type 0
RestStands {D} seen may_leave = (m : Machine) (bytes : List ℕ) (answers : List Answer) (items : List Item) (s : Session) (journal : Journal) (disk : D)
    → IsIn seen may_leave m bytes answers items s journal disk → LeavesAll (may_leave disk) (Stands m bytes answers items)

-- during a call that leaves one journal or another, each image stands for one of two lists
abbrev pub MomentsStand : {D : Type 0} → (D → ℕ) → (D → ℕ → Image → Type 0) → Type 0
MomentsStand {D} moment left_since = (m : Machine) (bytes : List ℕ) (answers : List Answer) (items others : List Item) (s t : Session) (before after : Log)
    (old new : D) → LogStands m bytes answers items s before → LogStands m bytes answers others t after
    → LeavesOnly moment left_since old new (HoldsEither before after) → LeavesOnly moment left_since old new (StandsForOne m bytes answers items others)

-- so does each that a crash leaves after the call, however it ended: the premise of the call that opens the slots next
abbrev pub LeftStands : {D : Type 0} → (D → ℕ) → (D → Image → Type 0) → (D → ℕ → Image → Type 0) → Type 0
LeftStands {D} moment may_leave left_since = (m : Machine) (bytes : List ℕ) (answers : List Answer) (items others : List Item) (old new : D)
    → LeavesOnly moment left_since old new (StandsForOne m bytes answers items others) → LeavesAll (may_leave new) (StandsForOne m bytes answers items others)

-- once such a call has synced both slots, all images stand for one of the two lists: the one for which what is read stands
abbrev pub SettledStands : {D : Type 0} → (D → Image) → (D → Image → Type 0) → Type 0
SettledStands {D} seen may_leave = (m : Machine) (bytes : List ℕ) (answers : List Answer) (items others : List Item) (disk : D)
    → may_leave disk (seen disk) → LeavesAll (may_leave disk) (StandsForOne m bytes answers items others) → IsSettled (seen disk) (may_leave disk)
    → LeavesAll (may_leave disk) (Stands m bytes answers items) ⊎ LeavesAll (may_leave disk) (Stands m bytes answers others)

pub record LeftLaws : Type 0 where
  pub appended : AppendedStands
  pub renewed : RenewedStands
  pub begun : BegunStands
  pub ran : StandingRan

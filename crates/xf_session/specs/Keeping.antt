-- What slots keep of a session that is played again from its start: the answers of the start as their base, and each event that it took as an entry.
use Rattle.std.specs.Prelude.{ℕ, ◌≡◌, ◌⊎◌, false, List, [], Option, None, Some, Ok}
use Rattle.xf_disk.specs.Image.{Image}
use Rattle.xf_store.specs.declared.answers.Answer.{Answer}
use Rattle.xf_journal.specs.declared.journal.Journal.{Journal}
use Rattle.xf_journal.specs.Held.{Log, held}
use Rattle.xf_journal.specs.Scanned.{IsAtRest}
use Rattle.xf_def_machine.specs.State.{State}
use Rattle.xf_def_sessions.specs.Sessions as history
use Rattle.xf_def_sessions.specs.Runs.{Item}
use Rattle.xf_def_sessions.specs.Images.{FromStart, StandsForNone}
use Rattle.xf_def_sessions.specs.Usual.{usual}
use Rattle.xf_session.specs.declared.session.Session.{Session}

-- ---- journals and images

-- the journal of the form with these bytes, which started with these answers and took these items; it is this session then
pub record LogKeeps (bytes : List ℕ) (answers : List Answer) (items : List Item) (last : history.Session) (log : Log) : Type 0 where
  pub whole : log.cut ≡ None
  pub form : log.kept.form ≡ bytes
  pub adoptions : log.kept.adoptions ≡ 0
  pub start : FromStart usual bytes answers items last log

-- the slots hold such a journal
abbrev pub KeepsAt : List ℕ → List Answer → List Item → history.Session → Image → Type 0
KeepsAt bytes answers items last image = (log : Log) × (held image ≡ Ok (Some log)) × LogKeeps bytes answers items last log

abbrev pub Keeps : List ℕ → List Answer → List Item → Image → Type 0
Keeps bytes answers items image = (last : history.Session) × KeepsAt bytes answers items last image

-- of two lists of items one: so a crash within an event leaves the slots
abbrev pub KeepsOne : List ℕ → List Answer → List Item → List Item → Image → Type 0
KeepsOne bytes answers items others image = Keeps bytes answers items image ⊎ Keeps bytes answers others image

-- no session, or one that has only started, with whatever answers: so a crash within the first start leaves the slots
abbrev pub KeepsNoItem : List ℕ → Image → Type 0
KeepsNoItem bytes image = StandsForNone image ⊎ ((answers : List Answer) × Keeps bytes answers [] image)

-- ---- sessions

-- the bytes in use in the slot of a journal, if there is one
abbrev pub used_in : Option Journal → ℕ
used_in None = 0
used_in (Some journal) = journal.used

-- the slots hold this journal, which is the one in hand, and a crash leaves what a read gives
abbrev pub RestsAs : {D : Type 0} → (D → Image) → (D → Image → Type 0) → Option Journal → Log → D → Type 0
RestsAs seen may_leave None log disk = ⊥
RestsAs seen may_leave (Some journal) log disk = IsAtRest seen may_leave journal log disk

-- the slots hold the journal in hand, if there is one
abbrev pub Rests : {D : Type 0} → (D → Image) → (D → Image → Type 0) → Option Journal → D → Type 0
Rests seen may_leave None disk = Unit {0}
Rests seen may_leave (Some journal) disk = (log : Log) × IsAtRest seen may_leave journal log disk

-- the journal in hand is that of the slots; once the session is broken nothing is told
abbrev pub IsAtDisk : {P D : Type 0} → (D → Image) → (D → Image → Type 0) → Session P → D → Type 0
IsAtDisk seen may_leave session disk = session.is_broken ≡ false → Rests seen may_leave session.journal disk

-- the session that took these items: the slots keep it, and who runs the form is in the very state that it came to
pub record InSession {P D : Type 0} (state : P → State) (seen : D → Image) (may_leave : D → Image → Type 0) (bytes : List ℕ) (answers : List Answer) (items : List Item)
    (last : history.Session) (session : Session P) (disk : D) : Type 0 where
  pub log : Log
  pub rest : RestsAs seen may_leave session.journal log disk
  pub keeps : LogKeeps bytes answers items last log
  pub same : state session.processor ≡ last.state
  pub whole : session.is_broken ≡ false

-- whichever session it is
abbrev pub IsSession : {P D : Type 0} → (P → State) → (D → Image) → (D → Image → Type 0) → List ℕ → List Answer → List Item → Session P → D → Type 0
IsSession state seen may_leave bytes answers items session disk = (last : history.Session) × InSession state seen may_leave bytes answers items last session disk

-- What two slots stand for: a list of items since the start of a form. The items are given, and slots stand for them or not: a snapshot does not tell
-- which items led to it.
use Rattle.std.specs.Prelude.{ℕ, zero, suc, ◌≡◌, ◌⊎◌, List, [], ◌∷◌, ◌++◌, Option, Some, None, option_and_then, option_map, Result, Ok, Err}
use Rattle.xf_disk.specs.Image.{Image}
use Rattle.xf_line.specs.declared.event.Asked.{Asked}
use Rattle.xf_line.specs.declared.event.Asked.TheVariants as asked
use Rattle.xf_line.specs.declared.fault.LineFault.{LineFault}
use Rattle.xf_line.specs.Line.{asked_by}
use Rattle.xf_store.specs.declared.answers.Answer.{Answer}
use Rattle.xf_journal.specs.declared.entry.Accepted.{Accepted}
use Rattle.xf_journal.specs.Entry.{answers_in}
use Rattle.xf_journal.specs.Held.{Log, held}
use Rattle.xf_snap.specs.declared.snap.Snap.{Snap}
use Rattle.xf_snap.specs.Reading.{snap_in}
use Rattle.xf_def_sessions.specs.Sessions.{Machine, Session, snap_of}
use Rattle.xf_def_sessions.specs.Runs.{Item, line, Goes, Ran}

-- ---- entries

-- the event that a line asks for, with these answers
abbrev pub item_by : Result Asked LineFault → List Answer → Option Item
item_by (Ok (asked.Event event)) answers = Some (line event answers)
item_by (Ok asked.Show) answers = None
item_by (Err fault) answers = None

abbrev pub item_of : Accepted → Option Item
item_of entry = item_by (asked_by entry.line) entry.answers

-- each of them, where each asks for an event
abbrev pub items_of : List Accepted → Option (List Item)
items_of [] = Some []
items_of (entry ∷ entries) = option_and_then (λ item. option_map (λ items. item ∷ items) (items_of entries)) (item_of entry)

-- ---- bases

-- the answers of the start, where a base is that
abbrev pub answers_at_base : List ℕ → Option (List Answer)
answers_at_base (zero ∷ bytes) = answers_in bytes
answers_at_base base = None

-- the snapshot that a base is, where it is one
abbrev pub snap_at_base : List ℕ → Option Snap
snap_at_base (suc zero ∷ bytes) = snap_in bytes
snap_at_base base = None

-- the base begins the session, and the entries are all that it took
pub record FromStart (m : Machine) (bytes : List ℕ) (answers : List Answer) (items : List Item) (last : Session) (log : Log) : Type 0 where
  pub ran : Ran m bytes answers items last
  pub base : answers_at_base log.kept.base ≡ Some answers
  pub entries : items_of log.kept.entries ≡ Some items

-- the base is a snapshot of the session on its way, and the entries are what it took since
pub record FromSnap (m : Machine) (bytes : List ℕ) (answers : List Answer) (items : List Item) (last : Session) (log : Log) : Type 0 where
  pub before : List Item
  pub after : List Item
  pub split : items ≡ before ++ after
  pub between : Session
  pub ran : Ran m bytes answers before between
  pub goes : Goes m between after last
  pub base : snap_at_base log.kept.base ≡ Some (snap_of between.state)
  pub entries : items_of log.kept.entries ≡ Some after

-- ---- journals and images

-- a journal stands for what a session took since the start of the form with these bytes and answers, at the end of which it is this session
pub record LogStands (m : Machine) (bytes : List ℕ) (answers : List Answer) (items : List Item) (last : Session) (log : Log) : Type 0 where
  pub whole : log.cut ≡ None
  pub form : log.kept.form ≡ last.form
  pub adoptions : log.kept.adoptions ≡ last.adoptions
  pub stands : FromStart m bytes answers items last log ⊎ FromSnap m bytes answers items last log

-- the slots hold such a journal
abbrev pub StandsAt : Machine → List ℕ → List Answer → List Item → Session → Image → Type 0
StandsAt m bytes answers items last image = (log : Log) × (held image ≡ Ok (Some log)) × LogStands m bytes answers items last log

abbrev pub Stands : Machine → List ℕ → List Answer → List Item → Image → Type 0
Stands m bytes answers items image = (last : Session) × StandsAt m bytes answers items last image

-- two closed slots stand for no session
abbrev pub StandsForNone : Image → Type 0
StandsForNone image = held image ≡ Ok None

-- What comes of opening the slots for a form that is constructed.
use Rattle.std.specs.Prelude.{ℕ, ◌≡◌, ◌⊎◌, false, IsSome, List, [], Option, None, string_bytes}
use Rattle.xf_session.specs.declared.session.Session.{Session}
use Rattle.xf_session.specs.Keeping.{IsSession, KeepsOne, KeepsNoItem, used_in}
use Rattle.xf_session.specs.Processing.{started}
use Rattle.xf_store.specs.declared.answers.Answer.{Answer}
use Rattle.xf_def_machine.specs.Program.{Program}
use Rattle.xf_def_machine.specs.State.{State}
use Rattle.xf_def_machine.specs.Step.{Posted}
use Rattle.xf_def_machine.specs.Replies.{note_lines}
use Rattle.xf_def_machine.specs.ControlText.{state_text}
use Rattle.xf_def_machine.specs.Start.{start}
use Rattle.xf_def_sessions.specs.Runs.{Item}
use Rattle.xf_def_form.specs.Formed.{profile}
use Rattle.xf_cli_commands.specs.declared.opening.Opened.{Opened}
use Rattle.xf_cli_commands.specs.declared.opening.Opened.TheVariants as outset
use Rattle.xf_cli_commands.specs.declared.status.Command.TheVariants.{Run, Show}
use Rattle.xf_cli_commands.specs.declared.status.SessionFault.{SessionFault}
use Rattle.xf_cli_commands.specs.Course.{set_out}
use Rattle.xf_cli_commands.specs.Device.{Device, Tells, first_image, IsLookedAt, HasFailed, AtFirst, AtEachMoment}
use Rattle.xf_cli_commands.specs.Finish.{IsNotOpened}
use Rattle.xf_cli_commands.specs.Forms.{HoldNone, IsStartRefused, StartsSo}
use Rattle.xf_cli_commands.specs.Kept.{Views, StandsBetween}
use Rattle.xf_cli_commands.specs.Outside.{Stored, IsCalled, IsUncalled}
use Rattle.xf_cli_commands.specs.Sessions.{Begins, IsShown, Opening}
use Rattle.xf_cli_commands.specs.Statuses.{session_line}
use Rattle.xf_cli_commands.specs.Stops.{IsAsBefore}

-- how contracts see who runs the form, and this disk
abbrev pub views_by : {P : Type 0} → (P → State) → (device : Device) → Views P device.Disk
views_by state device = record {
  state = state;
  tells = device.tells;
  seen = device.seen;
  may_leave = device.may_leave;
  moment = device.moment;
  left_since = device.left_since;
}

abbrev pub Is : {P : Type 0} → (P → State) → Device → List ℕ → List Answer → List Item → Session P → Type 0
Is state device form answers items session = IsSession state device.seen device.may_leave form answers items session device.after

-- what the session goes on from
pub record IsReady {P : Type 0} (state : P → State) (form : List ℕ) (device : Device) (session : Session P) : Type 0 where
  pub on : (answers : List Answer) (items next : List Item) → AtFirst device (KeepsOne form answers items next)
      → AtEachMoment device (KeepsOne form answers items next) × (Is state device form answers items session ⊎ Is state device form answers next session)
  pub once : AtFirst device (KeepsNoItem form) → AtEachMoment device (KeepsNoItem form) × ((answers : List Answer) × Is state device form answers [] session)
  pub tells : device.tells device.after ≡ device.tells device.before

-- it is opened or begun so
pub record IsOpen {P : Type 0} (state : P → State) (form : List ℕ) (program : Program) (device : Device) (store : Stored) (session : Session P) (notes : List ℕ) : Type 0 where
  pub begins : Begins form program (first_image device) store.before (set_out (state session.processor) (used_in session.journal)) store.after notes
  pub ready : IsReady state form device session
  pub kept : IsSome session.journal

abbrev pub OpensSo : {P : Type 0} → (P → State) → List ℕ → Program → Device → Stored → Opened P → Type 0
OpensSo state form program device store (outset.Session lines notes) =
    Tells device → IsOpen state form program device store lines.session (string_bytes notes)
OpensSo state form program device store (outset.Refused line) =
    IsStartRefused (start profile program) store (string_bytes line) × HoldNone form program device × IsLookedAt device
OpensSo state form program device store (outset.NotOpened line) = IsNotOpened Run form program device (string_bytes line) × IsUncalled store × IsLookedAt device
OpensSo state form program device store outset.DiskFailed = IsCalled store × (Tells device → IsAsBefore device form)
OpensSo state form program device store outset.NoRoom = IsCalled store × IsLookedAt device

abbrev pub ReopensSo : {P : Type 0} → (P → State) → (P → Option State) → List ℕ → Program → Device → Opened P → Type 0
ReopensSo state kept form program device (outset.Session lines notes) =
    (kept lines.session.processor ≡ None) × (Tells device → Opening device (λ o. (text : List ℕ) → text ≡ state_text profile (state lines.session.processor) → IsShown text o) form program)
    × IsLookedAt device
ReopensSo state kept form program device (outset.Refused line) = ⊥
ReopensSo state kept form program device (outset.NotOpened line) = IsNotOpened Show form program device (string_bytes line) × IsLookedAt device
ReopensSo state kept form program device outset.DiskFailed = IsLookedAt device
ReopensSo state kept form program device outset.NoRoom = IsLookedAt device

-- a session that is open may be asked its first line
abbrev pub StandsOpen : {P : Type 0} → (P → State) → (P → Option State) → Device → Opened P → Type 0
StandsOpen state kept device (outset.Session lines notes) = StandsBetween (views_by state device) kept lines.session device.after
StandsOpen state kept device (outset.Refused line) = Unit {0}
StandsOpen state kept device (outset.NotOpened line) = Unit {0}
StandsOpen state kept device outset.DiskFailed = Unit {0}
StandsOpen state kept device outset.NoRoom = Unit {0}

-- nothing is pending in it
abbrev pub IsIdle : {P : Type 0} → (P → Option State) → Opened P → Type 0
IsIdle kept (outset.Session lines notes) = kept lines.session.processor ≡ None
IsIdle kept (outset.Refused line) = Unit {0}
IsIdle kept (outset.NotOpened line) = Unit {0}
IsIdle kept outset.DiskFailed = Unit {0}
IsIdle kept outset.NoRoom = Unit {0}

-- the line tells why, or there is no room for it
abbrev pub IsLineFor : {P : Type 0} → SessionFault → Opened P → Type 0
IsLineFor fault (outset.NotOpened line) = string_bytes line ≡ session_line fault
IsLineFor fault outset.NoRoom = Unit {0}
IsLineFor fault (outset.Session lines notes) = ⊥
IsLineFor fault (outset.Refused line) = ⊥
IsLineFor fault outset.DiskFailed = ⊥

-- ---- a session that nothing keeps

-- it has started so, with the lines of the notes
abbrev pub TriesSo : {P : Type 0} → (P → State) → State → Stored → Opened P → Type 0
TriesSo state first store (outset.Session lines notes) =
    (posted : Posted) × StartsSo (started first) store.before (state lines.session.processor, store.after) posted × (string_bytes notes ≡ note_lines posted.notes)
TriesSo state first store (outset.Refused line) = IsStartRefused (started first) store (string_bytes line)
TriesSo state first store (outset.NotOpened line) = ⊥
TriesSo state first store outset.DiskFailed = ⊥
TriesSo state first store outset.NoRoom = IsCalled store

-- it may be asked its first line
pub record IsAlone {P : Type 0} (kept : P → Option State) (session : Session P) : Type 0 where
  pub idle : kept session.processor ≡ None
  pub unkept : session.journal ≡ None
  pub whole : session.is_broken ≡ false

abbrev pub StandsAlone : {P : Type 0} → (P → Option State) → Opened P → Type 0
StandsAlone kept (outset.Session lines notes) = IsAlone kept lines.session
StandsAlone kept (outset.Refused line) = Unit {0}
StandsAlone kept (outset.NotOpened line) = Unit {0}
StandsAlone kept outset.DiskFailed = Unit {0}
StandsAlone kept outset.NoRoom = Unit {0}

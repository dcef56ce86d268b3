-- What a run has written as it ends, which calls it made of the store, and what it leaves on the disk.
use Rattle.std.specs.Prelude.{ℕ, ◌≡◌, ◌⊎◌, List, [], string_bytes}
use Rattle.std.specs.declared.option.Option.{Option as Known}
use Rattle.xf_base.specs.Faults.{Rose}
use Rattle.xf_cli_stream.specs.declared.lines.Ending.{Ending}
use Rattle.xf_cli_stream.specs.declared.lines.Ending.TheVariants.{Done, ReadFault, SinkFault, DiskFault, TooMuch, Memory}
use Rattle.xf_def_machine.specs.Written.{IsFront}
use Rattle.xf_cli_commands.specs.declared.status.Command.{Command}
use Rattle.xf_cli_commands.specs.declared.status.Command.TheVariants.{Run, Try, Show, Check}
use Rattle.xf_cli_commands.specs.declared.status.SessionFault.{SessionFault}
use Rattle.xf_cli_commands.specs.declared.status.SessionFault.TheVariants as session
use Rattle.xf_cli_commands.specs.declared.status.Status.{Status}
use Rattle.xf_cli_commands.specs.declared.status.Status.TheVariants.{Usage, Refused, Checked, Unread, DiskFailed, NotOpened, Shown, NotShown, NoRoom, Answered}
use Rattle.xf_cli_commands.specs.Answered.{AnswersUpTo}
use Rattle.xf_cli_commands.specs.Device.{Device, Tells, IsUnused, IsLookedAt, HasFailed}
use Rattle.xf_cli_commands.specs.Forms.{RefusesBytes, IsAcceptable, FromForm}
use Rattle.xf_cli_commands.specs.Outside.{Outside, Stored, HasRisen, IsUntouched, IsUncalled, IsCalled, IsFormRead}
use Rattle.xf_cli_commands.specs.Sessions.{RunsOver, WithForm, Opening, IsWhy, IsShown}
use Rattle.xf_cli_commands.specs.Statuses.{Spells, AppendsLine, session_line, status_line, status_code}
use Rattle.xf_cli_commands.specs.Stops.{IsAsBefore}

-- ---- what a command uses

-- nothing is written into a slot; a command without slots makes no call of the disk
abbrev pub Spares : Command → Device → Type 0
Spares Run disk = IsLookedAt disk
Spares Try disk = IsUnused disk
Spares Show disk = IsLookedAt disk
Spares Check disk = IsUnused disk

-- some calls may have been made of the store before any line, where the form is started: none by a command that starts no form
abbrev pub CallsFor : Command → Stored → Type 0
CallsFor Run store = IsCalled store
CallsFor Try store = IsCalled store
CallsFor Show store = IsUncalled store
CallsFor Check store = IsUncalled store

-- a command that opens the slots
abbrev pub Opens : Command → Type 0
Opens Run = Unit {0}
Opens Try = ⊥
Opens Show = Unit {0}
Opens Check = ⊥

-- it goes no further then: where there is no session `run` begins one
abbrev pub StopsFor : Command → SessionFault → Type 0
StopsFor Run session.NoSession = ⊥
StopsFor command fault = Opens command

-- the disk failed before any line: only `run` writes then, and no more than a session that has only started
abbrev pub FailsSo : Command → Known (List ℕ) → Device → Type 0
FailsSo Run form disk = HasFailed disk × WithForm form disk (λ bytes program. IsAsBefore disk bytes)
FailsSo Try form disk = ⊥
FailsSo Show form disk = HasFailed disk × IsLookedAt disk
FailsSo Check form disk = ⊥

-- ---- a whole run

-- why the answers end so, where the sink had failed so often before the line for the status: a fault is told only where the object that was handed
-- in counted one, and where the notes or a reply could not be written or flushed the answers end so and not otherwise
abbrev pub HasCauseIn : Ending → Outside → ℕ → Type 0
HasCauseIn Done outside faults = faults ≡ outside.out.first_faults
HasCauseIn ReadFault outside faults = HasRisen outside.events × (faults ≡ outside.out.first_faults)
HasCauseIn SinkFault outside faults = Rose outside.out.first_faults faults
HasCauseIn DiskFault outside faults = HasFailed outside.disk × (faults ≡ outside.out.first_faults)
HasCauseIn TooMuch outside faults = faults ≡ outside.out.first_faults
HasCauseIn Memory outside faults = faults ≡ outside.out.first_faults

-- nothing is written, and no call of the sink was made
abbrev pub IsUnwritten : Outside → ℕ → List ℕ → Type 0
IsUnwritten outside faults written = (written ≡ []) × (faults ≡ outside.out.first_faults)

-- the words spell a command, no more of the form was read than a form may have, and nothing of the events
abbrev pub BeforeEvents : Command → Outside → ℕ → List ℕ → Type 0
BeforeEvents command outside faults written = Spells outside.words command × IsFormRead outside × IsUntouched outside.events × IsUnwritten outside faults written

-- without slots: the form starts afresh
abbrev pub Tries : Ending → Outside → List ℕ → Type 0
Tries ending outside written =
    Spells outside.words Try × FromForm outside.form.before outside.store.before (λ notes first. AnswersUpTo notes ending first outside.store.after outside.events written)
    × IsUnused outside.disk × (ending ≡ DiskFault → ⊥)

-- over the slots: the form goes on where they are those of its session, and starts afresh exactly where they hold none
abbrev pub RunsSlots : Ending → Outside → List ℕ → Type 0
RunsSlots ending outside written =
    Spells outside.words Run × WithForm outside.form.before outside.disk (λ form program. RunsOver form program ending outside.events outside.store outside.disk written)

-- the state is shown: whole, or a front of it where the sink failed
abbrev pub ShowsSlots : Outside → (List ℕ → Type 0) → Type 0
ShowsSlots outside holds =
    Spells outside.words Show × IsFormRead outside × IsUntouched outside.events × IsUncalled outside.store × IsLookedAt outside.disk
    × (text : List ℕ) × WithForm outside.form.before outside.disk (Opening outside.disk (IsShown text)) × holds text

-- when a run ends so, and what it has written then, the line for its status left out; so often had the sink failed before that line
abbrev pub Writes : Status → Outside → ℕ → List ℕ → Type 0
Writes Usage outside faults written =
    ((command : Command) → ¬ Spells outside.words command) × IsUntouched outside.form × IsUntouched outside.events × IsUncalled outside.store
    × IsUnused outside.disk × IsUnwritten outside faults written
Writes (Refused line) outside faults written =
    (command : Command) × BeforeEvents command outside faults written × RefusesBytes command outside.form.before outside.store outside.disk (string_bytes line)
    × Spares command outside.disk
Writes Checked outside faults written =
    BeforeEvents Check outside faults written × IsAcceptable outside.form.before × IsUncalled outside.store × IsUnused outside.disk
Writes Unread outside faults written =
    (command : Command) × BeforeEvents command outside faults written × HasRisen outside.form × IsUncalled outside.store × IsUnused outside.disk
Writes DiskFailed outside faults written =
    (command : Command) × BeforeEvents command outside faults written × CallsFor command outside.store × FailsSo command outside.form.before outside.disk
Writes (NotOpened line) outside faults written =
    (command : Command) × (fault : SessionFault) × StopsFor command fault × (string_bytes line ≡ session_line fault) × BeforeEvents command outside faults written × IsUncalled outside.store × IsLookedAt outside.disk
    × WithForm outside.form.before outside.disk (Opening outside.disk (IsWhy fault))
Writes Shown outside faults written = ShowsSlots outside (λ text. written ≡ text) × (faults ≡ outside.out.first_faults)
Writes NotShown outside faults written = ShowsSlots outside (λ text. IsFront written text) × Rose outside.out.first_faults faults
Writes NoRoom outside faults written =
    (command : Command) × BeforeEvents command outside faults written × CallsFor command outside.store × Spares command outside.disk
Writes (Answered ending) outside faults written =
    IsFormRead outside × (Tries ending outside written ⊎ RunsSlots ending outside written) × HasCauseIn ending outside faults

-- the run ends with this status
abbrev pub EndsWith : Status → Outside → Type 0
EndsWith status outside = (written : List ℕ) × (faults : ℕ) × Writes status outside faults written × AppendsLine outside.out faults written (status_line status)

-- the run ends with this number
abbrev pub Ends : ℕ → Outside → Type 0
Ends number outside = (status : Status) × (number ≡ status_code status) × EndsWith status outside

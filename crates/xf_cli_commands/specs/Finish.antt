-- How a run comes to its end.
use Rattle.std.specs.Prelude.{◌≡◌, ◌≤◌, ◌⊎◌, ℕ, false, true, List, [], ◌∷◌, length, String, string_bytes, Contains, Option, Some, None, Result, Ok, Err}
use Rattle.std.specs.declared.alloc.Global.{Global}
use Rattle.std.specs.List.{list_all}
use Rattle.std.specs.Io.KnownBytes.{Appends, Consumes, IsAtEnd}
use Rattle.xf_base.specs.Limits.{form_limit, line_limit}
use Rattle.xf_io.specs.Front.{AppendsFront}
use Rattle.xf_cli_stream.specs.Answering.{Answered}
use Rattle.xf_cli_stream.specs.Answers as lines
use Rattle.xf_cli_stream.specs.Out.{IsSteady}
use Rattle.xf_cli_stream.specs.declared.lines.Ending.{Ending}
use Rattle.xf_cli_stream.specs.declared.lines.Ending.TheVariants as ending
use Rattle.xf_line.specs.Line.{asked_by}
use Rattle.xf_form.specs.declared.fault.FormFault.TheVariants as fault
use Rattle.xf_form.specs.declared.loaded.Loaded.{Loaded}
use Rattle.xf_form.specs.Loading.{loaded_in}
use Rattle.xf_store.specs.declared.answers.Answer.{Answer}
use Rattle.xf_store.specs.Called.{Told}
use Rattle.xf_def_machine.specs.Program.{Program}
use Rattle.xf_def_machine.specs.State.{State}
use Rattle.xf_def_machine.specs.Construct.{construct}
use Rattle.xf_def_machine.specs.Start.{start}
use Rattle.xf_def_machine.specs.Step.{Posted, Outcome}
use Rattle.xf_def_machine.specs.Replies.{is_blank, note_lines, reply, without_event}
use Rattle.xf_def_form.specs.Formed.{program_in, profile}
use Rattle.xf_report.specs.Refusals.{construct_text}
use Rattle.xf_session.specs.declared.forms.FormFault.{FormFault}
use Rattle.xf_session.specs.declared.forms.FormFault.TheVariants as made
use Rattle.xf_session.specs.Processing.{started}
use Rattle.xf_cli_commands.specs.declared.form.Reading.{Reading}
use Rattle.xf_cli_commands.specs.declared.form.Reading.TheVariants as reading
use Rattle.xf_cli_commands.specs.declared.line.Wants.{Wants}
use Rattle.xf_cli_commands.specs.declared.line.Wants.TheVariants as wants
use Rattle.xf_cli_commands.specs.declared.status.Command.{Command}
use Rattle.xf_cli_commands.specs.declared.status.Command.TheVariants.{Run, Try, Show, Check}
use Rattle.xf_cli_commands.specs.declared.status.SessionFault.{SessionFault}
use Rattle.xf_cli_commands.specs.declared.status.Status.{Status}
use Rattle.xf_cli_commands.specs.declared.status.Status.TheVariants as status
use Rattle.xf_cli_commands.specs.Answered.{AnswersUpTo}
use Rattle.xf_cli_commands.specs.Course.{event_in}
use Rattle.xf_cli_commands.specs.Device.{Device, Tells, IsUnused, IsLookedAt, HasFailed}
use Rattle.xf_cli_commands.specs.Forms.{AreOf, Give, HoldNone, IsStartRefused, RefusesProgram, StartsSo}
use Rattle.xf_cli_commands.specs.Outside.{Object, Outside, Stored, IsUntouched, IsUncalled, IsCalled}
use Rattle.xf_cli_commands.specs.Sessions.{Opening, IsShown, IsWhy, RunsOver}
use Rattle.xf_cli_commands.specs.Statuses.{AppendsLine, Spells, refusal_line, session_line, status_line, status_code}
use Rattle.xf_cli_commands.specs.Stops.{IsAsBefore}
use Rattle.xf_cli_commands.specs.Written.{CallsFor, Spares, StopsFor, Writes}

-- ---- reading a form

-- the bytes were read to their end, or to the first that is too many
abbrev pub GivesReading : Option (List ℕ) → Option (List ℕ) → Reading → Type 0
GivesReading old new (reading.All bytes) = Consumes old new bytes × (length bytes ≤ form_limit → IsAtEnd new)
GivesReading old new reading.Fault = Unit {0}
GivesReading old new reading.Memory = Unit {0}

-- these are its bytes, which give it
abbrev pub GivesForm : Option (List ℕ) → Loaded → List ℕ → Type 0
GivesForm form l bytes = AreOf form bytes × (loaded_in bytes ≡ Ok l)

-- the line of bytes of which no form is made
abbrev pub IsLineOf : FormFault → List ℕ → Type 0
IsLineOf (made.NotForm number place) line = line ≡ refusal_line number place
IsLineOf (made.Refused why) line = line ≡ construct_text why
IsLineOf made.Memory line = ⊥

-- ---- reading a line

-- the machine's reply to it is this, in whatever state, and it asks for no event
pub record IsSaid (line text : List ℕ) : Type 0 where
  pub reply_is : (s : State) (answers : List Answer) → reply profile true s answers line ≡ without_event s (text ∷ [])
  pub no_event : event_in line ≡ None

-- the reply is this, or there is no room for it
abbrev pub IsText : List ℕ → Wants → Type 0
IsText text (wants.Asked asked) = ⊥
IsText text (wants.Said line) = string_bytes line ≡ text
IsText text wants.NoRoom = Unit {0}

abbrev pub GivesLine : List ℕ → Wants → Type 0
GivesLine line (wants.Asked asked) = (asked_by line ≡ Ok asked) × (length line ≤ line_limit) × (list_all is_blank line ≡ false)
GivesLine line (wants.Said text) = IsSaid line (string_bytes text)
GivesLine line wants.NoRoom = Unit {0}

-- ---- the status and its line

-- the number is that of the status, whose line is written
abbrev pub Finishes : Status → ℕ → Object → Type 0
Finishes s number out = (number ≡ status_code s) × AppendsLine out out.first_faults [] (status_line s)

-- the run comes to this status, and its line is still to be written
abbrev pub Runs : Status → Outside → Type 0
Runs s outside = (written : List ℕ) × Writes s outside outside.out.faults written × Appends outside.out.before outside.out.after written

-- the sink failed neither at the notes nor in a reply or a state, unless the run ends so
abbrev pub IsSteadyAt : Status → ℕ → ℕ → Type 0
IsSteadyAt (status.Answered e) before after = IsSteady e before after
IsSteadyAt status.NotShown before after = Unit {0}
IsSteadyAt s before after = after ≡ before

-- ---- a form that is loaded

abbrev pub GivesCommand : List (List ℕ) → Option Command → Type 0
GivesCommand words None = (command : Command) → ¬ Spells words command
GivesCommand words (Some command) = Spells words command

-- ---- what the run comes to over a form that is constructed

-- what it is given beside the form
pub record Objects : Type 1 where
  pub events : Object
  pub out : Object
  pub store : Stored
  pub disk : Device

-- nothing of the events was read, and nothing was written
pub record IsQuietly (events out : Object) : Type 0 where
  pub unread : IsUntouched events
  pub unwritten : out.after ≡ out.before

-- the notes of a start are written, and then the answers to the lines; or the sink failed at the notes, and no line was asked for
abbrev pub AnswersBehind : {A D : Type 0} → lines.Replies (A × (Told × D)) → lines.Leaves (A × (Told × D)) → List ℕ → Ending → A × (Told × D) → Told × D → Object → Object → Type 0
AnswersBehind {A} replies leaves notes e first after events out =
    ((last : A) × (mid : Option (List ℕ)) × Appends out.before mid notes × Answered replies leaves e first (last, after) events.before events.after mid out.after)
    ⊎ ((e ≡ ending.SinkFault) × IsUntouched events × AppendsFront out.before out.after notes × (after ≡ first.1))

-- no call was made of any of them
pub record IsIdle (o : Objects) : Type 0 where
  pub unread : IsUntouched o.events
  pub unwritten : IsUntouched o.out
  pub uncalled : IsUncalled o.store
  pub unused : IsUnused o.disk
  pub looks : IsLookedAt o.disk

-- without slots: the form has started so, and then the lines were answered
abbrev pub AnsweredBehind : List ℕ → Ending → State × Told → Told → Object → Object → Type 0
AnsweredBehind notes ending first later events out =
    (written : List ℕ) × AnswersUpTo notes ending first later events written × Appends out.before out.after written

abbrev pub StartedAndAnswered : (List Answer → Outcome) → Ending → Object → Object → Stored → Type 0
StartedAndAnswered given ending events out store =
    (first : State × Told) × (posted : Posted) × StartsSo given store.before first posted × AnsweredBehind (note_lines posted.notes) ending first store.after events out

abbrev pub TriesForm : State → Object → Object → Stored → Status → Type 0
TriesForm c events out store (status.Refused line) = IsQuietly events out × IsStartRefused (started c) store (string_bytes line)
TriesForm c events out store status.NoRoom = IsQuietly events out × IsCalled store
TriesForm c events out store (status.Answered e) = StartedAndAnswered (started c) e events out store × (e ≡ ending.DiskFault → ⊥)
TriesForm c events out store other = ⊥

-- the slots hold no session of the form to go on with
abbrev pub IsNotOpened : Command → List ℕ → Program → Device → List ℕ → Type 0
IsNotOpened command form program disk line =
    (why : SessionFault) × StopsFor command why × (line ≡ session_line why) × (Tells disk → Opening disk (IsWhy why) form program)

-- over the slots: answers are written, by a disk that keeps its model as a run over it says
abbrev pub RunsAndAnswers : List ℕ → Program → Ending → Objects → Type 0
RunsAndAnswers form program e o =
    (written : List ℕ) × Appends o.out.before o.out.after written × (Tells o.disk → RunsOver form program e o.events o.store o.disk written)

abbrev pub RunsSession : List ℕ → Program → Objects → Status → Type 0
RunsSession form program o (status.Refused line) =
    IsQuietly o.events o.out × IsStartRefused (start profile program) o.store (string_bytes line) × HoldNone form program o.disk × IsLookedAt o.disk
RunsSession form program o status.NoRoom = IsQuietly o.events o.out × IsCalled o.store × IsLookedAt o.disk
RunsSession form program o status.DiskFailed =
    IsQuietly o.events o.out × IsCalled o.store × HasFailed o.disk × (Tells o.disk → IsAsBefore o.disk form)
RunsSession form program o (status.NotOpened line) =
    IsQuietly o.events o.out × IsNotOpened Run form program o.disk (string_bytes line) × IsUncalled o.store × IsLookedAt o.disk
RunsSession form program o (status.Answered e) = RunsAndAnswers form program e o
RunsSession form program o other = ⊥

-- the state of the session
abbrev pub Shows : List ℕ → Program → Device → (List ℕ → Type 0) → Type 0
Shows form program disk holds = (text : List ℕ) × (Tells disk → Opening disk (IsShown text) form program) × holds text

abbrev pub ShowsSession : List ℕ → Program → Device → Object → Status → Type 0
ShowsSession form program disk out status.NoRoom = (out.after ≡ out.before) × IsLookedAt disk
ShowsSession form program disk out status.DiskFailed = (out.after ≡ out.before) × HasFailed disk × IsLookedAt disk
ShowsSession form program disk out (status.NotOpened line) = (out.after ≡ out.before) × IsNotOpened Show form program disk (string_bytes line) × IsLookedAt disk
ShowsSession form program disk out status.Shown = Shows form program disk (λ text. Appends out.before out.after text) × IsLookedAt disk
ShowsSession form program disk out status.NotShown = Shows form program disk (λ text. AppendsFront out.before out.after text) × IsLookedAt disk
ShowsSession form program disk out other = ⊥

-- this text is written, or a front of it
abbrev pub IsShownBy : List ℕ → Object → Status → Type 0
IsShownBy text out status.Shown = Appends out.before out.after text
IsShownBy text out status.NotShown = AppendsFront out.before out.after text
IsShownBy text out status.NoRoom = out.after ≡ out.before
IsShownBy text out other = ⊥

-- ---- what the run comes to over a form that is loaded of these bytes

abbrev pub IsConstructed : Loaded → Type 0
IsConstructed l = (s : State) × (construct profile (program_in l) ≡ Ok s)

abbrev pub FailsLoaded : Command → Loaded → List ℕ → Device → Type 0
FailsLoaded Run l bytes disk = HasFailed disk × IsConstructed l × (Tells disk → IsAsBefore disk bytes)
FailsLoaded Try l bytes disk = ⊥
FailsLoaded Show l bytes disk = HasFailed disk × IsLookedAt disk
FailsLoaded Check l bytes disk = ⊥

abbrev pub RunsLoaded : Command → Loaded → List ℕ → Objects → Status → Type 0
RunsLoaded command l bytes o (status.Refused line) =
    IsQuietly o.events o.out × RefusesProgram command bytes (program_in l) o.store o.disk (string_bytes line) × Spares command o.disk
RunsLoaded command l bytes o status.Checked = IsQuietly o.events o.out × (command ≡ Check) × IsConstructed l × IsUncalled o.store × IsUnused o.disk
RunsLoaded command l bytes o status.NoRoom = IsQuietly o.events o.out × CallsFor command o.store × Spares command o.disk
RunsLoaded command l bytes o status.DiskFailed = IsQuietly o.events o.out × CallsFor command o.store × FailsLoaded command l bytes o.disk
RunsLoaded command l bytes o (status.NotOpened line) =
    IsQuietly o.events o.out × IsNotOpened command bytes (program_in l) o.disk (string_bytes line) × IsConstructed l × IsUncalled o.store × IsLookedAt o.disk
RunsLoaded command l bytes o status.Shown =
    (command ≡ Show) × IsConstructed l × ShowsSession bytes (program_in l) o.disk o.out status.Shown × IsUntouched o.events × IsUncalled o.store
RunsLoaded command l bytes o status.NotShown =
    (command ≡ Show) × IsConstructed l × ShowsSession bytes (program_in l) o.disk o.out status.NotShown × IsUntouched o.events × IsUncalled o.store
RunsLoaded command l bytes o (status.Answered e) =
    ((command ≡ Try) × StartedAndAnswered (start profile (program_in l)) e o.events o.out o.store × IsUnused o.disk × (e ≡ ending.DiskFault → ⊥))
    ⊎ ((command ≡ Run) × IsConstructed l × RunsAndAnswers bytes (program_in l) e o)
RunsLoaded command l bytes o status.Usage = ⊥
RunsLoaded command l bytes o status.Unread = ⊥

-- ---- what the run comes to over the bytes of a form

-- they are no form: that is told, and nothing was done
pub record IsNotLoaded (bytes : List ℕ) (o : Objects) (s : Status) : Type 0 where
  pub number : ℕ
  pub place : List ℕ
  pub given : loaded_in bytes ≡ Err (fault.Refused number place)
  pub line : String Global
  pub is : s ≡ status.Refused line
  pub told : string_bytes line ≡ refusal_line number place
  pub idle : IsIdle o

-- they are loaded, and the run comes to this
pub record IsLoaded (command : Command) (bytes : List ℕ) (o : Objects) (s : Status) : Type 0 where
  pub l : Loaded
  pub given : loaded_in bytes ≡ Ok l
  pub runs : RunsLoaded command l bytes o s

-- no memory for the form: nothing was done
pub record IsOutOfRoom (o : Objects) (s : Status) : Type 0 where
  pub is : s ≡ status.NoRoom
  pub idle : IsIdle o

abbrev pub RunsBytes : Command → List ℕ → Objects → Status → Type 0
RunsBytes command bytes o s = IsLoaded command bytes o s ⊎ (IsNotLoaded bytes o s ⊎ IsOutOfRoom o s)

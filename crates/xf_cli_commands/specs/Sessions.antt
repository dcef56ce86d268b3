-- What a run over the two slots comes to: a session is opened or begun, its lines are answered, or its state is shown.
use Rattle.std.specs.Prelude.{ℕ, ◌≡◌, ◌⊎◌, ◌+◌, List, [], ◌++◌, Some, None, Result, Ok}
use Rattle.std.specs.declared.option.Option.{Option as Known}
use Rattle.xf_cli_stream.specs.Answers as lines
use Rattle.xf_cli_stream.specs.declared.answering.AnswerFault.{AnswerFault}
use Rattle.xf_cli_stream.specs.declared.answering.AnswerFault.TheVariants as answer_fault
use Rattle.xf_cli_stream.specs.declared.lines.Ending.{Ending}
use Rattle.xf_cli_stream.specs.declared.lines.Ending.TheVariants.{SinkFault}
use Rattle.xf_disk.specs.declared.slot.Slot.TheVariants.{A}
use Rattle.xf_disk.specs.Image.{Image}
use Rattle.xf_journal.specs.Held.{Log, held}
use Rattle.xf_journal.specs.Scanned.{new_log}
use Rattle.xf_form.specs.declared.fault.FormFault.{FormFault}
use Rattle.xf_form.specs.declared.loaded.Loaded.{Loaded}
use Rattle.xf_store.specs.declared.answers.Answer.{Answer}
use Rattle.xf_store.specs.declared.call.StoreCall.{StoreCall}
use Rattle.xf_store.specs.Called.{Called, Told}
use Rattle.xf_def_machine.specs.Program.{Program}
use Rattle.xf_def_machine.specs.State.{State}
use Rattle.xf_def_machine.specs.Construct.{construct}
use Rattle.xf_def_machine.specs.Start.{start}
use Rattle.xf_def_machine.specs.Step.{Posted}
use Rattle.xf_def_machine.specs.Replies.{answers_in, note_lines}
use Rattle.xf_def_machine.specs.ControlText.{state_text}
use Rattle.xf_def_machine.specs.Written.{IsFront}
use Rattle.xf_def_form.specs.Formed.{program_in, profile}
use Rattle.xf_def_sessions.specs.Sessions as history
use Rattle.xf_def_sessions.specs.Opening.{Opened, opened, no_session, other_form, damaged}
use Rattle.xf_session.specs.Opening.{opening}
use Rattle.xf_session.specs.Replaying.{start_image}
use Rattle.xf_cli_commands.specs.declared.status.SessionFault.{SessionFault}
use Rattle.xf_cli_commands.specs.declared.status.SessionFault.TheVariants as session
use Rattle.xf_cli_commands.specs.Course.{Course, set_out, Takes, Lacks, FailsAt, event_in}
use Rattle.xf_cli_commands.specs.Device.{Device, Tells, first_image}
use Rattle.xf_cli_commands.specs.Outside.{Object, Stored, IsUntouched}
use Rattle.xf_cli_commands.specs.Forms.{Give, StartsSo}
use Rattle.xf_cli_commands.specs.Stops.{IsKept}

-- ---- how a session begins

-- the slots hold one: no call is made of the store, and there are no notes
pub record IsFound (form : List ℕ) (program : Program) (image : Image) (before : Told) (first : Course) (told : Told) (notes : List ℕ) : Type 0 where
  pub session : history.Session
  pub opens : opening profile form program image ≡ opened session
  pub log : Log
  pub holds : held image ≡ Ok (Some log)
  pub first_is : first ≡ set_out session.state (log.gate + 1)
  pub uncalled : told ≡ before
  pub silent : notes ≡ []

-- they hold none: the form is started, with its notes, and these answers of the store begin the new journal
pub record IsBegun (form : List ℕ) (program : Program) (image : Image) (before : Told) (first : Course) (told : Told) (notes : List ℕ) : Type 0 where
  pub none : opening profile form program image ≡ no_session
  pub posted : Posted
  pub starts : StartsSo (start profile program) before (first.state, told) posted
  pub notes_are : notes ≡ note_lines posted.notes
  pub first_is : first ≡ set_out first.state ((new_log A 1 (start_image form (answers_in posted.calls))).gate + 1)

abbrev pub Begins : List ℕ → Program → Image → Told → Course → Told → List ℕ → Type 0
Begins form program image before first told notes = IsFound form program image before first told notes ⊎ IsBegun form program image before first told notes

-- ---- its lines

-- what a line without a reply leaves
abbrev pub Leaves : AnswerFault → Course → List ℕ → Course → Type 0
Leaves answer_fault.Memory c line d = Lacks c d
Leaves answer_fault.Disk c line d = FailsAt c (event_in line) d

-- behind the notes the answers to the lines are written, with the calls of the store in them; and what was taken is on the disk
pub record AnswersSo (notes : List ℕ) (ending : Ending) (first : Course) (told later : Told) (events left written form : List ℕ) (device : Device) : Type 0 where
  pub text : List ℕ
  pub wrote : written ≡ notes ++ text
  pub last : Course
  pub answers : lines.Answers Takes Leaves ending first events left text last
  pub called : Called told later [] last.calls
  pub kept : IsKept device form last

-- where the source tells its bytes
abbrev pub AnswersTold : List ℕ → Ending → Course → Told → Told → Known (List ℕ) → Known (List ℕ) → List ℕ → List ℕ → Device → Type 0
AnswersTold notes ending first told later None left written form device = IsFront notes written
AnswersTold notes ending first told later (Some events) None written form device = ⊥
AnswersTold notes ending first told later (Some events) (Some left) written form device = AnswersSo notes ending first told later events left written form device

-- the sink failed at the notes, and no line was asked for
pub record StopsAtNotes (notes : List ℕ) (ending : Ending) (first : Course) (told later : Told) (events : Object) (written form : List ℕ) (device : Device) : Type 0 where
  pub ends : ending ≡ SinkFault
  pub unread : IsUntouched events
  pub front : IsFront written notes
  pub uncalled : later ≡ told
  pub kept : IsKept device form first

abbrev pub Goes : List ℕ → Ending → Course → Told → Told → Object → List ℕ → List ℕ → Device → Type 0
Goes notes ending first told later events written form device =
    AnswersTold notes ending first told later events.before events.after written form device ⊎ StopsAtNotes notes ending first told later events written form device

-- a run over a disk that keeps its model
pub record RunsOver (form : List ℕ) (program : Program) (ending : Ending) (events : Object) (store : Stored) (device : Device) (written : List ℕ) : Type 0 where
  pub first : Course
  pub told : Told
  pub notes : List ℕ
  pub begins : Begins form program (first_image device) store.before first told notes
  pub goes : Goes notes ending first told store.after events written form device

-- ---- what the slots give

-- the form is accepted, and of its bytes, its program and the disk this holds, where that keeps its model
abbrev pub WithForm : Known (List ℕ) → Device → (List ℕ → Program → Type 0) → Type 0
WithForm form device holds =
    (loaded : Loaded) × (s : State) × (given : Give form (Ok loaded)) × (construct profile (program_in loaded) ≡ Ok s) × (Tells device → holds given.bytes (program_in loaded))

-- what opening gives
abbrev pub Opening : Device → (Opened → Type 0) → List ℕ → Program → Type 0
Opening device holds form program = holds (opening profile form program (first_image device))

-- why there is no session to go on with
abbrev pub IsWhy : SessionFault → Opened → Type 0
IsWhy (session.OtherForm at) result = result ≡ other_form at
IsWhy (session.Damaged slot at) result = result ≡ damaged slot at
IsWhy session.NoSession result = result ≡ no_session

-- the state of the session
abbrev pub IsShown : List ℕ → Opened → Type 0
IsShown written (opened s) = written ≡ state_text profile s.state
IsShown written other = ⊥

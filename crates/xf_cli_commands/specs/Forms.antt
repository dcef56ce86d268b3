-- What a run makes of the bytes of a form: they are refused, or give a form that is constructed and started.
use Rattle.std.specs.Prelude.{ℕ, ◌≡◌, ◌⊎◌, List, [], Some, None, Result, Ok, Err, Contains}
use Rattle.std.specs.declared.option.Option.{Option as Known}
use Rattle.xf_form.specs.declared.fault.FormFault.{FormFault}
use Rattle.xf_form.specs.declared.fault.FormFault.TheVariants as fault
use Rattle.xf_form.specs.declared.loaded.Loaded.{Loaded}
use Rattle.xf_form.specs.Loading.{loaded_in}
use Rattle.xf_store.specs.declared.answers.Answer.{Answer}
use Rattle.xf_store.specs.declared.call.StoreCall.{StoreCall}
use Rattle.xf_store.specs.Called.{Called, Told}
use Rattle.xf_def_machine.specs.Program.{Program}
use Rattle.xf_def_machine.specs.State.{State}
use Rattle.xf_def_machine.specs.Refusal as machine
use Rattle.xf_def_machine.specs.Construct.{construct}
use Rattle.xf_def_machine.specs.Start.{start}
use Rattle.xf_def_machine.specs.Step.{Posted, Outcome, accepted, refused}
use Rattle.xf_def_machine.specs.FormReplies.{construct_texts, ready_text}
use Rattle.xf_def_machine.specs.Replies.{answers_in, note_lines}
use Rattle.xf_def_machine.specs.StateText.{line_of}
use Rattle.xf_def_form.specs.Formed.{program_in, profile}
use Rattle.xf_def_sessions.specs.Opening.{no_session}
use Rattle.xf_session.specs.Opening.{opening}
use Rattle.xf_session.specs.Processing.{IsAccepted}
use Rattle.xf_cli_commands.specs.declared.status.Command.{Command}
use Rattle.xf_cli_commands.specs.declared.status.Command.TheVariants.{Run, Try, Show, Check}
use Rattle.xf_cli_commands.specs.Device.{Device, Tells, first_image}
use Rattle.xf_cli_commands.specs.Outside.{Stored, IsUncalled}
use Rattle.xf_cli_commands.specs.Statuses.{refusal_line}

-- ---- the bytes of a form

-- they are those of the form, where it tells them
abbrev pub AreOf : Known (List ℕ) → List ℕ → Type 0
AreOf None bytes = Unit {0}
AreOf (Some told) bytes = told ≡ bytes

-- they give this
pub record Give (form : Known (List ℕ)) (given : Result Loaded FormFault) : Type 0 where
  pub bytes : List ℕ
  pub of : AreOf form bytes
  pub give : loaded_in bytes ≡ given

-- they give a form that is constructed
abbrev pub IsAcceptable : Known (List ℕ) → Type 0
IsAcceptable form = (loaded : Loaded) × (s : State) × Give form (Ok loaded) × (construct profile (program_in loaded) ≡ Ok s)

-- ---- a form that is started

-- the start is accepted with the answers that the calls got which were made of the store, and this stands after it
pub record StartsSo (given : List Answer → Outcome) (before : Told) (first : State × Told) (posted : Posted) : Type 0 where
  pub made : List StoreCall
  pub called : Called before first.1 [] made
  pub is : IsAccepted (given (answers_in made)) first.0 made posted

-- they give a form of whose start, by the lines of its notes and what stands after it, this holds
abbrev pub FromForm : Known (List ℕ) → Told → (List ℕ → State × Told → Type 0) → Type 0
FromForm form before holds =
    (loaded : Loaded) × (first : State × Told) × (posted : Posted) × Give form (Ok loaded) × StartsSo (start profile (program_in loaded)) before first posted
    × holds (note_lines posted.notes) first

-- ---- a form that is refused

-- the start is refused with this line, after these calls of the store
abbrev pub RefusesWith : Outcome → List StoreCall → List ℕ → Type 0
RefusesWith (accepted s posted) made line = ⊥
RefusesWith (refused why calls) made line = (line ≡ line_of (ready_text why)) × (calls ≡ made)

-- so it is with the answers that the calls got which were made of the store
pub record IsStartRefused (given : List Answer → Outcome) (store : Stored) (line : List ℕ) : Type 0 where
  pub made : List StoreCall
  pub called : Called store.before store.after [] made
  pub refused : RefusesWith (given (answers_in made)) made line

-- the construction is accepted, and the start refused
abbrev pub RefusesStart : Result State machine.Refused → (List Answer → Outcome) → Stored → List ℕ → Type 0
RefusesStart (Ok s) started store line = IsStartRefused started store line
RefusesStart (Err refusal) started store line = ⊥

-- the construction is refused
abbrev pub RefusesConstruction : Program → Stored → List ℕ → Type 0
RefusesConstruction program store line = Contains (construct_texts (construct profile program)) line × IsUncalled store

-- the slots hold no session of the form with these bytes: so it is started
abbrev pub HoldNone : List ℕ → Program → Device → Type 0
HoldNone bytes program disk = Tells disk → opening profile bytes program (first_image disk) ≡ no_session

-- the construction is refused, or the start where the command asks for it
abbrev pub RefusesProgram : Command → List ℕ → Program → Stored → Device → List ℕ → Type 0
RefusesProgram Run bytes program store disk line =
    RefusesConstruction program store line
    ⊎ (RefusesStart (construct profile program) (start profile program) store line × HoldNone bytes program disk)
RefusesProgram Try bytes program store disk line =
    RefusesConstruction program store line ⊎ RefusesStart (construct profile program) (start profile program) store line
RefusesProgram Show bytes program store disk line = RefusesConstruction program store line
RefusesProgram Check bytes program store disk line = RefusesConstruction program store line

abbrev pub RefusesForm : Command → List ℕ → Result Loaded FormFault → Stored → Device → List ℕ → Type 0
RefusesForm command bytes (Err (fault.Refused number place)) store disk line = (line ≡ refusal_line number place) × IsUncalled store
RefusesForm command bytes (Err fault.Memory) store disk line = ⊥
RefusesForm command bytes (Ok loaded) store disk line = RefusesProgram command bytes (program_in loaded) store disk line

-- the bytes are refused with this line
abbrev pub RefusesBytes : Command → Known (List ℕ) → Stored → Device → List ℕ → Type 0
RefusesBytes command form store disk line = (given : Result Loaded FormFault) × (g : Give form given) × RefusesForm command g.bytes given store disk line

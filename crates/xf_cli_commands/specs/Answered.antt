-- The answers to the lines of a run without slots.
use Rattle.std.specs.Prelude.{ℕ, ◌≡◌, ◌⊎◌, ◌≤◌, ◌+◌, true, List, [], ◌∷◌, ◌++◌, length, Some, None}
use Rattle.std.specs.declared.option.Option.{Option as Known}
use Rattle.xf_base.specs.Limits.{stream_limit}
use Rattle.xf_io.specs.Ahead.{most_ahead}
use Rattle.xf_io.specs.Lines.{ended_lines}
use Rattle.xf_cli_stream.specs.declared.lines.Ending.{Ending}
use Rattle.xf_cli_stream.specs.declared.lines.Ending.TheVariants.{Done, ReadFault, SinkFault, DiskFault, TooMuch, Memory}
use Rattle.xf_store.specs.declared.call.StoreCall.{StoreCall}
use Rattle.xf_store.specs.Called.{Called, Told}
use Rattle.xf_def_machine.specs.State.{State}
use Rattle.xf_def_machine.specs.Replies.{Replies}
use Rattle.xf_def_machine.specs.Written.{Answering, Answers, Exactly, IsFront, answered_lines, done, read_fault, sink_fault, too_much}
use Rattle.xf_def_form.specs.Formed.{profile}
use Rattle.xf_cli_commands.specs.Outside.{Object, IsUntouched}

-- memory was wanting: so much of the events was taken as lines and as a part of the next one, and of the lines that ended all are answered but at most
-- the last one, which was in work; none in part
pub record StopsIn (a : Answering) : Type 0 where
  pub taken : List ℕ
  pub ahead : List ℕ
  pub bytes : a.events ≡ taken ++ (ahead ++ a.left)
  pub within : length taken ≤ stream_limit
  pub buffered : length ahead ≤ most_ahead
  pub lines : List (List ℕ)
  pub most : (ended_lines taken ≡ lines) ⊎ ((line : List ℕ) × (ended_lines taken ≡ lines ++ line ∷ []))
  pub replied : Exactly profile a lines

-- the calls are those of whole lines: a reply is written when all calls of its line are made
abbrev pub AreOfWholeLines : Answering → Type 0
AreOfWholeLines a =
    (whole more : List (List ℕ)) × (text : List ℕ) × (last : State) × (answered_lines a.events ≡ whole ++ more) × Replies profile a.counts a.first whole a.calls text last

-- the answers end so by the form machine, with the calls that it makes in the lines and with no more; but where memory was wanting the line in work may
-- have made some more
abbrev pub EndsSo : Ending → Answering → List StoreCall → Type 0
EndsSo Done a more = Answers profile done a × (more ≡ [])
EndsSo ReadFault a more = Answers profile read_fault a × (length a.events ≤ length a.left + stream_limit) × (more ≡ [])
EndsSo SinkFault a more = Answers profile sink_fault a × AreOfWholeLines a × (more ≡ [])
EndsSo DiskFault a more = ⊥
EndsSo TooMuch a more = Answers profile too_much a × (more ≡ [])
EndsSo Memory a more = StopsIn a

-- evaluations are counted; the notes of the start are written before any reply
abbrev pub answering_of : List ℕ → State → List ℕ → List ℕ → List ℕ → List StoreCall → Answering
answering_of notes first events left written calls =
    record { counts = true; first = first; before = notes; events = events; left = left; written = written; calls = calls }

-- these calls were made of the store between what it tells before and after, and the answers are the form machine's, where the source tells its bytes
abbrev pub AnswersTold : List ℕ → Ending → State × Told → Told → Known (List ℕ) → Known (List ℕ) → List ℕ → Type 0
AnswersTold notes ending first later None left written = IsFront notes written
AnswersTold notes ending first later (Some events) None written = ⊥
AnswersTold notes ending first later (Some events) (Some left) written =
    (calls more : List StoreCall) × Called first.1 later [] (calls ++ more) × EndsSo ending (answering_of notes first.0 events left written calls) more

-- the sink failed at the notes, and no line was asked for
abbrev pub StopsAtNotes : List ℕ → Ending → Told → Told → Object → List ℕ → Type 0
StopsAtNotes notes ending before later events written = (ending ≡ SinkFault) × IsUntouched events × IsFront written notes × (later ≡ before)

-- the notes of the start are written, and then the answers to the lines
abbrev pub AnswersUpTo : List ℕ → Ending → State × Told → Told → Object → List ℕ → Type 0
AnswersUpTo notes ending first later events written =
    AnswersTold notes ending first later events.before events.after written ⊎ StopsAtNotes notes ending first.1 later events written

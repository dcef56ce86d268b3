-- A run: a form starts, and takes what is accepted, one after the other, each with exactly the answers of the store that are kept beside it.
use Rattle.std.specs.Prelude.{Bool, true, false, ◌&&◌, List, [], ◌∷◌, Option, Some, None, bytes_eq, if◌then◌else◌}
use Rattle.xf_line.specs.declared.event.Event.{Event}
use Rattle.xf_store.specs.declared.answers.Answer.{Answer}
use Rattle.xf_store.specs.declared.answers.Answer.TheVariants.{PutDone, Failed, Found, Absent, TooLong}
use Rattle.xf_store.specs.declared.call.StoreCall.{StoreCall}
use Rattle.xf_def_machine.specs.Profile.{Profile}
use Rattle.xf_def_machine.specs.Program.{Program}
use Rattle.xf_def_machine.specs.State.{State}
use Rattle.xf_def_machine.specs.Step.{Outcome, accepted, refused, step}
use Rattle.xf_def_machine.specs.Start.{start}

-- what a session accepts
pub data Item : Type 0 where
  -- an event from outside, with the answers of the store
  line : Event → List Answer → Item

-- ---- answers

-- the two answers are the same
abbrev pub same_answer : Answer → Answer → Bool
same_answer PutDone PutDone = true
same_answer Failed Failed = true
same_answer (Found bytes) (Found others) = bytes_eq bytes others
same_answer Absent Absent = true
same_answer TooLong TooLong = true
same_answer answer other = false

-- there is a call for each answer, which it got
abbrev pub are_those_of : List StoreCall → List Answer → Bool
are_those_of [] [] = true
are_those_of (call ∷ calls) (answer ∷ answers) = same_answer call.answer answer && are_those_of calls answers
are_those_of calls answers = false

-- it was accepted with exactly these
abbrev pub if_exact : List Answer → Outcome → Option State
if_exact answers (refused why calls) = None
if_exact answers (accepted s posted) = if are_those_of posted.calls answers then Some s else None

-- ---- runs

-- what comes of one item
abbrev pub take_item : Profile → State → Item → Option State
take_item p s (line event answers) = if_exact answers (step p s event answers)

-- none where one of them is not accepted so
abbrev pub run_from : Profile → Option State → List Item → Option State
run_from p s [] = s
run_from p None (item ∷ items) = None
run_from p (Some s) (item ∷ items) = run_from p (take_item p s item) items

-- of the form, with the answers of its start
abbrev pub run : Profile → Program → List Answer → List Item → Option State
run p form answers items = run_from p (if_exact answers (start p form answers)) items

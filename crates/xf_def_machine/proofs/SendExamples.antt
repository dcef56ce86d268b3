-- How submissions end, by the answers of the store.
use Rattle.std.proofs.Common.{◌≡◌, ℕ, Bool, true, false, List, [], ◌∷◌, Option, Some, None, refl, codes}
use Rattle.std.specs.Prelude.{Result, Ok, Err}
use Rattle.std.specs.Str.{is_utf8, chars}
use lib.Utf8.{encode}
use Rattle.std.specs.Fmt.{digits}
use Rattle.json.specs.Print.{escape_byte}
use Rattle.xf_def_syntax.specs.declared.form.Method.TheVariants.{Put, Get}
use Rattle.xf_def_syntax.specs.declared.form.Replace.TheVariants as replace
use Rattle.xf_def_syntax.specs.declared.form.Selection.TheVariants.{Bind}
use Rattle.xf_def_syntax.specs.declared.form.Submission.{Submission}
use Rattle.xf_def_forest.specs.StringValue.{string_value}
use Rattle.xf_line.specs.declared.event.Event.TheVariants.{Send}
use Rattle.xf_json.specs.declared.fault.JsonFault.TheVariants.{NotJson}
use Rattle.xf_store.specs.declared.answers.Answer.{Answer}
use Rattle.xf_store.specs.declared.answers.Answer.TheVariants as answer
use Rattle.xf_store.specs.declared.call.Asked.TheVariants as asked
use Rattle.xf_store.specs.declared.call.StoreCall.{StoreCall}
use Rattle.xf_def_model.specs.Examples as bind
use Rattle.xf_def_model.specs.Rules.{Rule}
use Rattle.xf_def_ui.specs.Interface as sort
use Rattle.xf_def_ui.specs.Interface.{by_bind}
use Rattle.xf_def_machine.specs.declared.note.Note.{Note}
use Rattle.xf_def_machine.specs.declared.note.Note.TheVariants.{Message, All}
use Rattle.xf_def_machine.specs.Exchange.{attempt}
use Rattle.xf_def_machine.specs.Program.{Program}
use Rattle.xf_def_machine.specs.Program as role
use Rattle.xf_def_machine.specs.Refusal.{Refused}
use Rattle.xf_def_machine.specs.State.{State}
use Rattle.xf_def_machine.specs.Submit.{Ended, done, failed, with_tree, takes_tree, takes_text}
use Rattle.xf_def_machine.specs.Surround.{all_in}
use Rattle.xf_def_machine.specs.Step.{Outcome}
use Rattle.xf_def_machine.specs.Start.{start}
use Rattle.xf_def_machine.specs.Examples
use Rattle.xf_def_machine.specs.Examples.{Part, profile, element, named, saying, model, instance, on}
use Rattle.xf_def_machine.specs.ExampleOutcomes.{seen, given_out, then_with}
use Rattle.xf_def_machine.specs.ExampleSends.{sending, submitting, one, nest, never_relevant, never_valid, never_open}

abbrev sent : Submission → List Rule → Examples.Tree → List Answer → Outcome
sent s rules document answers = then_with answers (start profile (submitting s rules document) []) (Send (codes "s"))

abbrev notes : Outcome → Option (List Note)
notes = given_out (λ g. g.notes)

abbrev calls : Outcome → Option (List StoreCall)
calls = given_out (λ g. g.calls)

abbrev fails_by : List ℕ → Option (List Note)
fails_by error = Some (Message error ∷ [])

abbrev put_all : Submission
put_all = sending Put replace.All (codes "o")

-- ---- before the store is called

no_data : notes (sent put_all never_relevant one []) ≡ fails_by (codes "no-data")
unfolding escape_byte
no_data = refl

not_valid : notes (sent put_all never_valid one []) ≡ fails_by (codes "validation-error")
unfolding escape_byte
not_valid = refl

-- a name that begins with a point
no_name : notes (sent (sending Put replace.All (codes ".o")) [] one (answer.PutDone ∷ [])) ≡ fails_by (codes "resource-error")
unfolding escape_byte
no_name = refl

not_called : calls (sent (sending Put replace.All (codes ".o")) [] one (answer.PutDone ∷ [])) ≡ Some []
unfolding escape_byte
not_called = refl

-- ---- by the answer

abbrev get_text : Submission
get_text = sending Get replace.Text (codes "r")

a_put : notes (sent put_all [] one (answer.PutDone ∷ [])) ≡ Some (All (codes "o") 0 ∷ Message (codes "done") ∷ [])
unfolding escape_byte digits
a_put = refl

the_call : calls (sent put_all [] one (answer.PutDone ∷ [])) ≡ Some (record { name = codes "o"; asked = asked.Put []; answer = answer.PutDone } ∷ [])
unfolding escape_byte digits
the_call = refl

a_failed_put : notes (sent put_all [] one (answer.Failed ∷ [])) ≡ fails_by (codes "resource-error")
unfolding escape_byte
a_failed_put = refl

nothing_there : notes (sent get_text [] one (answer.Absent ∷ [])) ≡ fails_by (codes "resource-error")
unfolding escape_byte
nothing_there = refl

-- no UTF-8
not_a_text : notes (sent get_text [] one (answer.Found (255 ∷ []) ∷ [])) ≡ fails_by (codes "parse-error")
unfolding escape_byte is_utf8 chars encode
not_a_text = refl

-- an element with element children, and a readonly one
no_target : notes (sent get_text [] nest (answer.Found (codes "7") ∷ [])) ≡ fails_by (codes "target-error")
unfolding escape_byte is_utf8 chars encode
no_target = refl

a_readonly_target : notes (sent get_text never_open one (answer.Found (codes "7") ∷ [])) ≡ fails_by (codes "target-error")
unfolding escape_byte is_utf8 chars encode
a_readonly_target = refl

abbrev text : State → List ℕ
text s = string_value 0 (all_in s)

a_text_replaced : seen text (sent get_text [] one (answer.Found (codes "7") ∷ [])) ≡ Some (codes "7")
unfolding escape_byte is_utf8 chars encode
a_text_replaced = refl

-- an empty response replaces nothing, and is no failure
nothing_replaced : seen text (sent get_text [] one (answer.Found [] ∷ [])) ≡ Some (codes "1")
unfolding escape_byte
nothing_replaced = refl

an_empty_response : notes (sent get_text [] one (answer.Found [] ∷ [])) ≡ Some (Message (codes "done") ∷ [])
unfolding escape_byte
an_empty_response = refl

-- what a get found is not used, but its size is told
a_get : notes (sent (sending Get replace.All (codes "r")) [] one (answer.Found (codes "abc") ∷ [])) ≡ Some (All (codes "r") 3 ∷ Message (codes "done") ∷ [])
unfolding escape_byte digits
a_get = refl

-- ---- one call more than there may be: two were made

abbrev a_call : StoreCall
a_call = record { name = codes "o"; asked = asked.Put []; answer = answer.PutDone }

abbrev ended_by : Result Ended Refused → Option (List ℕ)
ended_by (Ok (failed error s)) = Some error
ended_by (Ok (done s)) = Some (codes "done")
ended_by (Err refusal) = None

abbrev third_call : List ℕ → Option (Option (List ℕ))
third_call name =
    let sub = sending Put replace.Nothing name in
    seen (λ s. ended_by (attempt profile [] (λ e t. Ok t) sub (record s { calls = a_call ∷ a_call ∷ [] }))) (start profile (submitting sub [] one) [])

refused_before_it_is_made : third_call (codes "o") ≡ Some None
refused_before_it_is_made = refl

-- the second call gets the second answer, be the first one that of no put
abbrev second_call : List Answer → Option (Option (List ℕ))
second_call answers =
    let sub = sending Put replace.Nothing (codes "o") in
    seen (λ s. ended_by (attempt profile answers (λ e t. Ok t) sub (record s { calls = a_call ∷ [] }))) (start profile (submitting sub [] one) [])

by_its_place : second_call (answer.Absent ∷ answer.PutDone ∷ []) ≡ Some (Some (codes "done"))
by_its_place = refl

none_at_its_place : second_call (answer.PutDone ∷ []) ≡ Some (Some (codes "resource-error"))
none_at_its_place = refl

-- but a name that is none is found first
the_name_first : third_call (codes ".o") ≡ Some (Some (codes "resource-error"))
the_name_first = refl

abbrev by_first_bind : Part → Part
by_first_bind x = (record x.0 { binding = by_bind 0 }, x.1)

-- ---- a submission whose bind selects nothing: a handler in it has no context node, one outside hears how it ended

abbrev selecting_nothing : Program
selecting_nothing = record (Examples.form
    (element None (1 ∷ 5 ∷ []) sort.host role.other
    ∷ model (2 ∷ 3 ∷ [])
    ∷ instance
    ∷ named (codes "s") (by_first_bind (element (Some 1) (4 ∷ []) sort.other (role.submission 0)))
    ∷ saying (codes "inside") (on (codes "xforms-submit-error") 3 [] role.message)
    ∷ saying (codes "outside") (on (codes "xforms-submit-error") 0 [] role.message)
    ∷ []) (bind.bind (bind.to (codes "zz")) ∷ []) [] [] one)
    { submissions = record put_all { selection = Bind 0 } ∷ []; submission_elements = 3 ∷ [] }

heard_outside : notes (then_with [] (start profile selecting_nothing []) (Send (codes "s"))) ≡ Some (Message (codes "outside") ∷ [])
unfolding escape_byte
heard_outside = refl

-- ---- a response that is to be an element, and the other answers of the store

abbrev get_tree : Submission
get_tree = sending Get replace.Instance (codes "r")

no_element : seen (λ s. ended_by (with_tree profile (λ e t. Ok t) get_tree 0 s (Err NotJson))) (start profile (submitting get_tree [] one) []) ≡ Some (Some (codes "parse-error"))
no_element = refl

an_empty_tree : notes (sent get_tree [] one (answer.Found [] ∷ [])) ≡ Some (Message (codes "done") ∷ [])
unfolding escape_byte
an_empty_tree = refl

-- where a tree may come, and where a text: the document element and its text in ["d","1"], d with an element in ["d",["x","1"]]
abbrev takes : Examples.Tree → ℕ → Option (Bool × Bool)
takes document n = seen {X = Bool × Bool} (λ s. (takes_tree s n, takes_text s n)) (start profile (submitting get_tree [] document) [])

both : takes one 0 ≡ Some (true, true)
both = refl

a_tree_alone : takes nest 0 ≡ Some (true, false)
a_tree_alone = refl

neither : seen {X = Bool × Bool} (λ s. (takes_tree s 0, takes_text s 0)) (start profile (submitting get_tree never_open nest) []) ≡ Some (false, false)
neither = refl

too_long : notes (sent get_text [] one (answer.TooLong ∷ [])) ≡ fails_by (codes "resource-error")
unfolding escape_byte
too_long = refl

-- an answer of a put does not fit a get: it counts as a failed call; so does one that is missing
not_its_answer : notes (sent get_text [] one (answer.PutDone ∷ [])) ≡ fails_by (codes "resource-error")
unfolding escape_byte
not_its_answer = refl

no_answer : notes (sent get_text [] one []) ≡ fails_by (codes "resource-error")
unfolding escape_byte
no_answer = refl

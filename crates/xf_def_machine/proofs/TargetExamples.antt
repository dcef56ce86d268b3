-- What is named where an index is 0, and what still hears of it.
use Rattle.std.proofs.Common.{◌≡◌, ℕ, true, List, [], ◌∷◌, Option, Some, None, refl, codes}
use Rattle.json.specs.Print.{escape_byte}
use Rattle.xf_def_syntax.specs.declared.form.Method.TheVariants.{Put}
use Rattle.xf_def_syntax.specs.declared.form.Replace.TheVariants as replace
use Rattle.xf_store.specs.declared.answers.Answer.TheVariants as answer
use Rattle.xf_line.specs.declared.event.Event.TheVariants.{Activate, Index, Send, Dispatch, Reset}
use Rattle.xf_line.specs.declared.event.Event.{Event}
use Rattle.xf_def_ui.specs.Interface as sort
use Rattle.xf_def_machine.specs.declared.note.Note.{Note}
use Rattle.xf_def_machine.specs.declared.note.Note.TheVariants.{Message, Focus}
use Rattle.xf_def_machine.specs.Program.{Program, Work}
use Rattle.xf_def_machine.specs.Program as role
use Rattle.xf_def_machine.specs.Refusal.{no_target, bad_index}
use Rattle.xf_def_machine.specs.Step.{Outcome}
use Rattle.xf_def_machine.specs.Start.{start}
use Rattle.xf_def_machine.specs.Examples
use Rattle.xf_def_machine.specs.Examples.{Part, profile, element, bound, named, saying, model, instance, on, to}
use Rattle.xf_def_machine.specs.ExampleOutcomes.{given_out, why, then, then_with}
use Rattle.xf_def_machine.specs.ExampleEvents.{pair}
use Rattle.xf_def_machine.specs.ExampleSends.{sending}

abbrev notes : Outcome → Option (List Note)
notes = given_out (λ g. g.notes)

-- ---- in the repeat over these nodes: the trigger t, which hears `e`, and the repeat q; the trigger x outside does this

abbrev within : List ℕ → Work → Program
within name work = Examples.form
    (element None (1 ∷ 3 ∷ 7 ∷ []) sort.host role.other
    ∷ model (2 ∷ [])
    ∷ instance
    ∷ bound (to name) (element (Some 0) (4 ∷ 6 ∷ []) (sort.repeated 0 1) role.other)
    ∷ named (codes "t") (element (Some 3) (5 ∷ []) sort.field role.trigger)
    ∷ saying (codes "heard") (on (codes "e") 4 [] role.message)
    ∷ named (codes "q") (bound (to (codes "i")) (element (Some 3) [] (sort.repeated 1 1) role.other))
    ∷ named (codes "x") (element (Some 0) (8 ∷ []) sort.field role.trigger)
    ∷ on (codes "DOMActivate") 7 [] work
    ∷ []) [] (3 ∷ 6 ∷ []) [] pair

abbrev has_rows : List ℕ
has_rows = codes "a"

abbrev has_none : List ℕ
has_none = codes "zz"

abbrev done : List ℕ → Work → Event → Outcome
done name work event = then (start profile (within name work) []) event

abbrev tells_t : Work
tells_t = role.dispatch (record { name = codes "e"; target = 4; bubbles = true; is_cancelable = true })

-- a line that dispatches: accepted, and nothing is told
a_line_to_a_row : notes (done has_rows role.all_in_it (Dispatch (codes "e") (codes "t"))) ≡ Some (Message (codes "heard") ∷ [])
unfolding escape_byte
a_line_to_a_row = refl

a_line_to_none : notes (done has_none role.all_in_it (Dispatch (codes "e") (codes "t"))) ≡ Some []
a_line_to_none = refl

-- so an action that dispatches, and one that sets the focus
an_action_to_a_row : notes (done has_rows tells_t (Activate (codes "x") [])) ≡ Some (Message (codes "heard") ∷ [])
unfolding escape_byte
an_action_to_a_row = refl

an_action_to_none : notes (done has_none tells_t (Activate (codes "x") [])) ≡ Some []
an_action_to_none = refl

a_focus : notes (done has_rows (role.set_focus 4) (Activate (codes "x") [])) ≡ Some (Focus (codes "t") ∷ [])
unfolding escape_byte
a_focus = refl

no_focus : notes (done has_none (role.set_focus 4) (Activate (codes "x") [])) ≡ Some []
no_focus = refl

-- rows that are named have to stand
too_few : why (done has_rows role.all_in_it (Activate (codes "t") [])) ≡ Some no_target
too_few = refl

not_there : why (done has_none role.all_in_it (Activate (codes "t") (1 ∷ []))) ≡ Some no_target
not_there = refl

one_that_stands : why (done has_rows role.all_in_it (Activate (codes "t") (1 ∷ []))) ≡ None
one_that_stands = refl

-- the repeat is there, whatever its rows are
no_row_of_q : why (done has_none role.all_in_it (Index (codes "q") 1)) ≡ Some bad_index
no_row_of_q = refl

-- ---- a model in the repeat over these nodes, with a handler of its rebuild in it and one of the root

abbrev holding : List ℕ → Program
holding name = record (Examples.form
    (element None (1 ∷ 5 ∷ 6 ∷ []) sort.host role.other
    ∷ bound (to name) (element (Some 0) (2 ∷ []) (sort.repeated 0 1) role.other)
    ∷ named (codes "m") (element (Some 1) (3 ∷ 4 ∷ []) sort.other (role.model 0))
    ∷ element (Some 2) [] sort.other role.other
    ∷ saying (codes "in") (on (codes "xforms-rebuild") 2 [] role.message)
    ∷ saying (codes "out") (on (codes "xforms-rebuild") 0 [] role.message)
    ∷ named (codes "x") (element (Some 0) (7 ∷ []) sort.field role.trigger)
    ∷ on (codes "DOMActivate") 6 [] (role.on_model (codes "xforms-rebuild"))
    ∷ []) [] (1 ∷ []) [] pair) { model_elements = 2 ∷ []; instance_elements = 3 ∷ [] }

rebuilt_in_a_row : notes (then (start profile (holding has_rows) []) (Activate (codes "x") [])) ≡ Some (Message (codes "in") ∷ Message (codes "out") ∷ [])
unfolding escape_byte
rebuilt_in_a_row = refl

-- to a model it is told always; the handler in it has no context node there
rebuilt_in_none : notes (then (start profile (holding has_none) []) (Activate (codes "x") [])) ≡ Some (Message (codes "out") ∷ [])
unfolding escape_byte
rebuilt_in_none = refl

-- a line that names the model tells nothing there
a_line_to_that_model : notes (then (start profile (holding has_none) []) (Dispatch (codes "xforms-rebuild") (codes "m"))) ≡ Some []
a_line_to_that_model = refl

-- ---- a submission in a model in the repeat over these nodes: the trigger x sends it, and the root hears how it ended

abbrev holding_one : List ℕ → Program
holding_one name = record (Examples.form
    (element None (1 ∷ 5 ∷ 6 ∷ []) sort.host role.other
    ∷ bound (to name) (element (Some 0) (2 ∷ []) (sort.repeated 0 1) role.other)
    ∷ element (Some 1) (3 ∷ 4 ∷ []) sort.other (role.model 0)
    ∷ element (Some 2) [] sort.other role.other
    ∷ named (codes "s") (element (Some 2) [] sort.other (role.submission 0))
    ∷ saying (codes "done") (on (codes "xforms-submit-done") 0 [] role.message)
    ∷ named (codes "x") (element (Some 0) (7 ∷ []) sort.field role.trigger)
    ∷ on (codes "DOMActivate") 6 [] (role.send (Some 0))
    ∷ []) [] (1 ∷ []) [] pair)
    { model_elements = 2 ∷ []; instance_elements = 3 ∷ []; submissions = sending Put replace.Nothing (codes "o") ∷ []; submission_elements = 4 ∷ [] }

abbrev with_done : List ℕ → Event → Option (List Note)
with_done name event = notes (then_with (answer.PutDone ∷ []) (start profile (holding_one name) []) event)

sent_from_a_row : with_done has_rows (Activate (codes "x") []) ≡ Some (Message (codes "done") ∷ [])
unfolding escape_byte
sent_from_a_row = refl

-- an action sends it always
sent_from_none : with_done has_none (Activate (codes "x") []) ≡ Some (Message (codes "done") ∷ [])
unfolding escape_byte
sent_from_none = refl

-- a line that names it does not
a_line_that_sends : with_done has_rows (Send (codes "s")) ≡ Some (Message (codes "done") ∷ [])
unfolding escape_byte
a_line_that_sends = refl

a_line_that_sends_none : with_done has_none (Send (codes "s")) ≡ Some []
a_line_that_sends_none = refl

-- nor does one that resets its model, be it the first one
a_line_that_resets_none : notes (then (start profile (holding has_none) []) (Reset [])) ≡ Some []
a_line_that_resets_none = refl

-- Which handlers an event calls, what their default is, and when updates come.
use Rattle.std.proofs.Common.{◌≡◌, ℕ, Bool, true, false, List, [], ◌∷◌, map, Option, Some, None, refl, codes}
use Rattle.json.specs.Print.{escape_byte}
use Rattle.xf_def_syntax.specs.declared.action.Handler.{Handler}
use Rattle.xf_line.specs.declared.event.Event.{Event}
use Rattle.xf_line.specs.declared.event.Event.TheVariants.{Set, Activate, Dispatch, Reset}
use Rattle.xf_def_machine.specs.declared.note.Note.{Note}
use Rattle.xf_def_machine.specs.declared.note.Note.TheVariants.{Message}
use Rattle.xf_def_ui.specs.Interface as sort
use Rattle.xf_def_ui.specs.Elements.{no_element}
use Rattle.xf_def_machine.specs.Program.{Program}
use Rattle.xf_def_machine.specs.Program as role
use Rattle.xf_def_machine.specs.State.{State}
use Rattle.xf_def_machine.specs.Surround.{all_in}
use Rattle.xf_def_forest.specs.StringValue.{string_value}
use Rattle.xf_def_machine.specs.Events.{fired}
use Rattle.xf_def_machine.specs.Start.{start}
use Rattle.xf_def_ui.specs.Examples.{stopping, cancelling}
use Rattle.xf_def_machine.specs.Examples
use Rattle.xf_def_machine.specs.Examples.{profile, element, named, saying, model, instance, on, with_handler, given_that}
use Rattle.xf_def_machine.specs.ExampleOutcomes.{seen, given_out, then}
use Rattle.xf_def_machine.specs.ExampleEvents.{pair, no, way, resetting, changing}

abbrev noted : Program → Event → Option (List Note)
noted form event = given_out (λ g. g.notes) (then (start profile form []) event)

abbrev says : List (List ℕ) → Option (List Note)
says texts = Some (map Message texts)

abbrev plain : Handler → Handler
plain h = h

-- ---- the way of an event

abbrev at_x : Event
at_x = Activate (codes "x") []

down_and_up : noted (way plain) at_x ≡ says (codes "one" ∷ codes "two" ∷ codes "three" ∷ codes "four" ∷ [])
unfolding escape_byte
down_and_up = refl

-- the other handler of the same observer is still called
a_stop : noted (way stopping) at_x ≡ says (codes "one" ∷ codes "two" ∷ [])
unfolding escape_byte
a_stop = refl

-- ---- defaults

abbrev numbers : State → List ℕ
numbers s = map (λ x. x.number) s.forest.nodes

abbrev after : Program → Event → Option (List ℕ)
after form event = seen numbers (then (start profile form []) event)

-- the nodes are new ones
a_reset : after (resetting plain) (Reset []) ≡ Some (5 ∷ 6 ∷ 7 ∷ 8 ∷ 9 ∷ 10 ∷ [])
unfolding escape_byte
a_reset = refl

a_cancel : after (resetting cancelling) (Reset (codes "m")) ≡ Some (5 ∷ 0 ∷ 1 ∷ 2 ∷ 3 ∷ 4 ∷ [])
unfolding escape_byte
a_cancel = refl

a_cancel_is_heard : noted (resetting cancelling) (Dispatch (codes "xforms-reset") (codes "m")) ≡ says (codes "reset" ∷ [])
unfolding escape_byte
a_cancel_is_heard = refl

-- ---- rounds

abbrev set_i : Event
set_i = Set (codes "i") [] (codes "5")

-- the change of a is told; its handler sets b, so that a second round tells the change of b
the_second_round : noted changing set_i ≡ says (codes "b" ∷ [])
unfolding escape_byte
the_second_round = refl

abbrev values : State → List (List ℕ)
values s = map (λ n. string_value n (all_in s)) (1 ∷ 3 ∷ [])

both_are_set : seen values (then (start profile changing []) set_i) ≡ Some (codes "5" ∷ codes "9" ∷ [])
unfolding escape_byte
both_are_set = refl

-- nothing is told of the text that stands
the_same_text : noted changing (Set (codes "i") [] (codes "1")) ≡ says []
the_same_text = refl

-- ---- what a dispatch may say of an event: of one that is known nothing counts

abbrev kept : List ℕ → Bool × Bool
kept name = let e = fired name false false [] 0 [] in (e.event.bubbles, e.event.is_cancelable)

an_event_of_its_own : kept (codes "e") ≡ (false, false)
an_event_of_its_own = refl

one_that_can_be_cancelled : kept (codes "DOMActivate") ≡ (true, true)
one_that_can_be_cancelled = refl

one_that_cannot : (fired (codes "xforms-insert") true true [] 0 []).event.is_cancelable ≡ false
one_that_cannot = refl

-- ---- a handler that cancels though its `if` is false

abbrev never : Program → Program
never form = record form { roles = map (λ r. (given_that no (no_element, r)).1) form.roles }

it_cancels_all_the_same : after (never (resetting cancelling)) (Reset []) ≡ Some (5 ∷ 0 ∷ 1 ∷ 2 ∷ 3 ∷ 4 ∷ [])
it_cancels_all_the_same = refl

and_says_nothing : noted (never (resetting cancelling)) (Reset []) ≡ says []
and_says_nothing = refl

-- ---- the default action of a submit control: its submission is told, unless a handler cancels

abbrev submitting : (Handler → Handler) → Program
submitting more = record (Examples.form
    (element None (1 ∷ 5 ∷ []) sort.host role.other
    ∷ model (2 ∷ 3 ∷ [])
    ∷ instance
    ∷ element (Some 1) (4 ∷ []) sort.other (role.submission 0)
    ∷ saying (codes "sent") (with_handler cancelling (on (codes "xforms-submit") 3 [] role.message))
    ∷ named (codes "x") (element (Some 0) (6 ∷ []) sort.field (role.submit (Some 0)))
    ∷ saying (codes "x") (with_handler more (on (codes "DOMActivate") 5 [] role.message))
    ∷ []) [] [] [] pair) { submission_elements = 3 ∷ [] }

a_submit : noted (submitting plain) at_x ≡ says (codes "x" ∷ codes "sent" ∷ [])
unfolding escape_byte
a_submit = refl

a_cancelled_submit : noted (submitting cancelling) at_x ≡ says (codes "x" ∷ [])
unfolding escape_byte
a_cancelled_submit = refl

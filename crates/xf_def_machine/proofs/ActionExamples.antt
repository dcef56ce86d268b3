-- Where actions are evaluated, and what they leave undone.
use Rattle.std.proofs.Common.{◌≡◌, ℕ, false, List, [], ◌∷◌, map, Option, Some, None, refl, codes}
use Rattle.std.specs.Fmt.{digits}
use Rattle.json.specs.Print.{escape_byte}
use Rattle.xf_num.specs.Number.{scale}
use Rattle.xf_name.specs.declared.axis.Axis.TheVariants as axis
use Rattle.xf_def_syntax.specs.declared.expr.Operator.TheVariants as operator
use Rattle.xf_def_syntax.specs.declared.expr.Test.TheVariants as test
use Rattle.xf_def_forest.specs.declared.content.Content.TheVariants as content
use Rattle.xf_def_forest.specs.Examples.{plain}
use Rattle.xf_def_forest.specs.StringValue.{string_value}
use Rattle.xf_def_xpath.specs.Asked.{Trace}
use Rattle.xf_def_xpath.specs.Examples.{simple, step, child, path, from, call, number, literal, two}
use Rattle.xf_def_xpath.specs.Setting.{Meaning}
use Rattle.xf_line.specs.declared.event.Event.TheVariants.{Activate}
use Rattle.xf_def_model.specs.Examples as bind
use Rattle.xf_def_model.specs.Rules.{Rule}
use Rattle.xf_def_ui.specs.Interface as sort
use Rattle.xf_def_ui.specs.Interface.{by_bind}
use Rattle.xf_def_ui.specs.Examples.{stopping}
use Rattle.xf_def_machine.specs.declared.limit.LimitWord.TheVariants as word
use Rattle.xf_def_machine.specs.declared.note.Note.{Note}
use Rattle.xf_def_machine.specs.declared.note.Note.TheVariants.{Message, Load}
use Rattle.xf_def_machine.specs.Profile.{Profile}
use Rattle.xf_def_machine.specs.Program.{Program, Work, InsertBy}
use Rattle.xf_def_machine.specs.Program as role
use Rattle.xf_def_machine.specs.Refusal.{binding, budget, limit}
use Rattle.xf_def_machine.specs.State.{State}
use Rattle.xf_def_machine.specs.Surround.{all_in}
use Rattle.xf_def_machine.specs.Step.{Outcome, step as stepped, accepted, refused}
use Rattle.xf_def_machine.specs.Start.{start}
use Rattle.xf_def_machine.specs.Examples
use Rattle.xf_def_machine.specs.Examples.{Part, Tree, profile, element, bound, named, saying, model, instance, on, with_handler, capturing, during, given_that, to, itself, event_of, element_at, text_at}
use Rattle.xf_def_machine.specs.ExampleOutcomes.{seen, given_out, why, then}
use Rattle.xf_def_machine.specs.ExampleEvents.{pair, beside, no}

abbrev notes : Outcome → Option (List Note)
notes = given_out (λ g. g.notes)

abbrev numbers : State → List ℕ
numbers s = map (λ x. x.number) s.forest.nodes

-- ---- the trigger x does this, in a form with these binds

abbrev asking : List Rule → Tree → Part → Program
asking rules document part = Examples.form
    (element None (1 ∷ 3 ∷ []) sort.host role.other ∷ model (2 ∷ []) ∷ instance
    ∷ named (codes "x") (element (Some 0) (4 ∷ []) sort.field role.trigger) ∷ part ∷ []) rules [] [] document

abbrev doing : Work → Part
doing work = on (codes "DOMActivate") 3 [] work

abbrev done_in : List Rule → Tree → Part → Outcome
done_in rules document part = then (start profile (asking rules document part) []) (Activate (codes "x") [])

-- over ["d",["a","1"],["b","2"]], whose nodes have the numbers 0 to 4 below the root 5
abbrev done : Part → Outcome
done part = done_in [] pair part

-- ---- a while: in a group on a[1] the trigger deletes its context node while there are several a

abbrev first_a : Trace
first_a = path (step axis.Child (simple (codes "a")) (number 1 ∷ []) ∷ [])

abbrev several : Meaning
several = (two (call 8 (from (call 18 []) (child (codes "a") ∷ []) ∷ [])) operator.Greater (number 1)).meaning

abbrev deleting : Work
deleting = role.delete (record { context = None; at = None })

abbrev one_by_one : Program
one_by_one = Examples.form
    (element None (1 ∷ 3 ∷ []) sort.host role.other ∷ model (2 ∷ []) ∷ instance
    ∷ bound first_a.meaning (element (Some 0) (4 ∷ []) sort.group role.other)
    ∷ named (codes "x") (element (Some 3) (5 ∷ []) sort.field role.trigger)
    ∷ during several (bound itself (on (codes "DOMActivate") 4 [] deleting)) ∷ []) [] [] []
    (element_at 0 (codes "d") ∷ element_at 1 (codes "a") ∷ element_at 1 (codes "a") ∷ element_at 1 (codes "a") ∷ [])

-- the context stays the node with which it began, which stands in no parent after the first turn: two are left for ever
a_context_once_for_all_turns : why (then (start profile one_by_one []) (Activate (codes "x") [])) ≡ Some budget
unfolding scale
a_context_once_for_all_turns = refl

-- ---- the event that is handled: seen by what an action says, not by what stands around it

-- on an insert of a: a message in a group on event('inserted-nodes'), and one that binds these nodes itself
abbrev telling : Program
telling = Examples.form
    (element None (1 ∷ 3 ∷ 5 ∷ 6 ∷ []) sort.host role.other ∷ model (2 ∷ []) ∷ instance
    ∷ bound (event_of (codes "inserted-nodes")) (element (Some 0) (4 ∷ []) sort.group role.other)
    ∷ saying (codes "in the group") (with_handler (λ h. record h { observer = Some 2 }) (on (codes "xforms-insert") 3 [] role.message))
    ∷ bound (event_of (codes "inserted-nodes")) (with_handler (λ h. record h { observer = Some 2 }) (on (codes "xforms-insert") 0 [] role.message))
    ∷ named (codes "x") (element (Some 0) (7 ∷ []) sort.field role.trigger)
    ∷ bound (to (codes "a")) (on (codes "DOMActivate") 6 [] (role.insert (record { context = None; origin = None; at = None; is_before = false })))
    ∷ []) [] [] [] pair

no_event_around_an_action : notes (then (start profile telling []) (Activate (codes "x") [])) ≡ Some (Message (codes "1") ∷ [])
unfolding escape_byte
no_event_around_an_action = refl

-- ---- notes

-- of what selects nothing, with an empty text
a_message_of_nothing : notes (done (bound (to (codes "zz")) (doing role.message))) ≡ Some (Message [] ∷ [])
unfolding escape_byte
a_message_of_nothing = refl

a_load_of_nothing : notes (done (bound (to (codes "zz")) (doing (role.load (codes "r"))))) ≡ Some (Load [] ∷ [])
unfolding escape_byte
a_load_of_nothing = refl

a_load : notes (done (doing (role.load (codes "r")))) ≡ Some (Load (codes "r") ∷ [])
unfolding escape_byte
a_load = refl

-- ---- setvalue: of the document element, by a string that is too long

abbrev too_long : Work
too_long = role.set_value (Some (call 6 (literal (codes "a") ∷ literal (codes "b") ∷ [])).meaning)

abbrev narrow : Profile
narrow = record profile { bounds = record profile.bounds { string = 1 } }

abbrev after : Outcome → Outcome
after (accepted s posted) = stepped narrow s (Activate (codes "x") []) []
after (refused reason calls) = refused reason calls

abbrev set : List Rule → Meaning → Outcome
set rules bound_to = after (start narrow (asking rules pair (bound bound_to (doing too_long))) [])

-- the element children are met before the string is made; a readonly node before both
a_parent : why (set [] itself) ≡ Some (binding (codes "/d"))
a_parent = refl

a_readonly_parent : why (set (bind.readonly bind.yes (bind.bind (path [])) ∷ []) itself) ≡ None
a_readonly_parent = refl

nothing_bound : why (set [] (to (codes "zz"))) ≡ None
nothing_bound = refl

then_the_string : why (set [] (to (codes "a"))) ≡ Some (limit (word.Long ∷ []))
then_the_string = refl

-- ---- delete

abbrev children : Meaning
children = (path (step axis.Child test.AnyName [] ∷ [])).meaning

abbrev delete_at : Option Meaning → Work
delete_at at = role.delete (record { context = None; at = at })

abbrev delete_in : Meaning → Work
delete_in context = role.delete (record { context = Some context; at = None })

all_of_the_set : seen numbers (done (bound children (doing (delete_at None)))) ≡ Some (5 ∷ 0 ∷ [])
all_of_the_set = refl

-- a number that is none names the last one
the_last_for_no_number : seen numbers (done (bound children (doing (delete_at (Some (to (codes "zz"))))))) ≡ Some (5 ∷ 0 ∷ 1 ∷ 2 ∷ [])
unfolding scale
the_last_for_no_number = refl

-- the number is asked of the first node of the set, with its place and the size of the set
by_the_size : seen numbers (done (bound children (doing (delete_at (Some (call 19 []).meaning))))) ≡ Some (5 ∷ 0 ∷ 1 ∷ 2 ∷ [])
unfolding scale
by_the_size = refl

by_the_place : seen numbers (done (bound children (doing (delete_at (Some (call 29 []).meaning))))) ≡ Some (5 ∷ 0 ∷ 3 ∷ 4 ∷ [])
unfolding scale
by_the_place = refl

-- the context is that of the node set
in_its_context : seen numbers (done (bound (beside (codes "b")) (doing (delete_in (to (codes "a")))))) ≡ Some (5 ∷ 0 ∷ 1 ∷ 2 ∷ [])
in_its_context = refl

no_context : seen numbers (done (bound children (doing (delete_in (to (codes "zz")))))) ≡ Some (5 ∷ 0 ∷ 1 ∷ 2 ∷ 3 ∷ 4 ∷ [])
no_context = refl

-- a bind has its nodes whatever the context is, but none where there is no context
abbrev by_the_bind : Part → Part
by_the_bind x = (record x.0 { binding = by_bind 0 }, x.1)

abbrev of_b : List Rule
of_b = bind.bind (bind.to (codes "b")) ∷ []

a_bind_in_a_context : seen numbers (done_in of_b pair (by_the_bind (doing (delete_in (to (codes "a")))))) ≡ Some (5 ∷ 0 ∷ 1 ∷ 2 ∷ [])
a_bind_in_a_context = refl

a_bind_without_context : seen numbers (done_in of_b pair (by_the_bind (doing (delete_in (to (codes "zz")))))) ≡ Some (5 ∷ 0 ∷ 1 ∷ 2 ∷ 3 ∷ 4 ∷ [])
a_bind_without_context = refl

-- ---- insert

abbrev inserting : Option Meaning → Option Meaning → Option Meaning → Work
inserting context origin at = role.insert (record { context = context; origin = origin; at = at; is_before = false })

-- neither a node set nor a context
no_place : seen numbers (done (doing (inserting None (Some (to (codes "a"))) None))) ≡ Some (5 ∷ 0 ∷ 1 ∷ 2 ∷ 3 ∷ 4 ∷ [])
no_place = refl

-- a context alone
into_the_context : seen numbers (done (doing (inserting (Some itself) (Some (to (codes "a"))) None))) ≡ Some (5 ∷ 0 ∷ 6 ∷ 7 ∷ 1 ∷ 2 ∷ 3 ∷ 4 ∷ [])
into_the_context = refl

-- so with a bind that selects nothing
of_zz : seen numbers (done_in (bind.bind (bind.to (codes "zz")) ∷ []) pair (by_the_bind (doing (inserting (Some itself) (Some (to (codes "a"))) None)))) ≡ Some (5 ∷ 0 ∷ 6 ∷ 7 ∷ 1 ∷ 2 ∷ 3 ∷ 4 ∷ [])
of_zz = refl

without_an_origin : seen numbers (done (bound (to (codes "a")) (doing (inserting None (Some (to (codes "zz"))) None)))) ≡ Some (5 ∷ 0 ∷ 1 ∷ 2 ∷ 3 ∷ 4 ∷ [])
without_an_origin = refl

behind_the_last_for_no_number : seen numbers (done (bound children (doing (inserting None (Some (to (codes "a"))) (Some (to (codes "zz"))))))) ≡ Some (5 ∷ 0 ∷ 1 ∷ 2 ∷ 3 ∷ 4 ∷ 6 ∷ 7 ∷ [])
unfolding scale
behind_the_last_for_no_number = refl

-- ["d",["r",{"k":"1"}],["s",{"k":"2"}]]: each k is copied to r, the second copy in place of the first
abbrev keyed : Tree
keyed =
    element_at 0 (codes "d") ∷ element_at 1 (codes "r") ∷ (2, content.Attribute (plain (codes "k")) (codes "1"))
    ∷ element_at 1 (codes "s") ∷ (2, content.Attribute (plain (codes "k")) (codes "2")) ∷ []

abbrev each_key : Meaning
each_key = (path (step axis.Child test.AnyName [] ∷ step axis.Attribute (simple (codes "k")) [] ∷ [])).meaning

abbrev key_of_r : Meaning
key_of_r = (path (child (codes "r") ∷ step axis.Attribute (simple (codes "k")) [] ∷ [])).meaning

abbrev keys_doubled : Outcome
keys_doubled = done_in [] keyed (bound key_of_r (doing (inserting None (Some each_key) None)))

the_later_copy_stays : seen numbers keys_doubled ≡ Some (5 ∷ 0 ∷ 1 ∷ 7 ∷ 3 ∷ 4 ∷ [])
the_later_copy_stays = refl

both_were_made : seen (λ s. s.forest.next) keys_doubled ≡ Some 8
both_were_made = refl

-- ---- a handler that stops the event though its `if` is false

abbrev stopped : Program
stopped = Examples.form
    (element None (1 ∷ 3 ∷ 4 ∷ []) sort.host role.other ∷ model (2 ∷ []) ∷ instance
    ∷ given_that no (saying (codes "one") (with_handler (λ h. stopping (capturing h)) (on (codes "DOMActivate") 0 [] role.message)))
    ∷ named (codes "x") (element (Some 0) (5 ∷ []) sort.field role.trigger)
    ∷ saying (codes "two") (on (codes "DOMActivate") 4 [] role.message) ∷ []) [] [] [] pair

it_stops_all_the_same : notes (then (start profile stopped []) (Activate (codes "x") [])) ≡ Some []
it_stops_all_the_same = refl

-- both are told to the instance, each with the node of which it is a copy
abbrev telling_keys : List ℕ → Program
telling_keys name = Examples.form
    (element None (1 ∷ 3 ∷ []) sort.host role.other ∷ model (2 ∷ []) ∷ instance
    ∷ named (codes "x") (element (Some 0) (4 ∷ []) sort.field role.trigger)
    ∷ bound key_of_r (doing (inserting None (Some each_key) None))
    ∷ with_handler (λ h. record h { observer = Some 2 }) (on (codes "xforms-insert") 0 (6 ∷ []) role.message)
    ∷ element (Some 5) [] (sort.inline (Some (call 8 (call 13 (literal name ∷ []) ∷ [])).meaning)) role.other ∷ []) [] [] [] keyed

both_are_inserted : notes (then (start profile (telling_keys (codes "inserted-nodes")) []) (Activate (codes "x") [])) ≡ Some (Message (codes "2") ∷ [])
unfolding escape_byte scale digits
both_are_inserted = refl

both_are_copied : notes (then (start profile (telling_keys (codes "origin-nodes")) []) (Activate (codes "x") [])) ≡ Some (Message (codes "2") ∷ [])
unfolding escape_byte scale digits
both_are_copied = refl

-- a text is no origin, while in a node set it stands for its parent
abbrev text_of_a : Meaning
text_of_a = (path (child (codes "a") ∷ step axis.Child test.Text [] ∷ [])).meaning

no_copy_of_a_text : seen numbers (done (bound children (doing (inserting None (Some text_of_a) None)))) ≡ Some (5 ∷ 0 ∷ 1 ∷ 2 ∷ 3 ∷ 4 ∷ [])
no_copy_of_a_text = refl

but_of_its_parent : seen numbers (done (bound text_of_a (doing (inserting None None None)))) ≡ Some (5 ∷ 0 ∷ 1 ∷ 2 ∷ 6 ∷ 7 ∷ 3 ∷ 4 ∷ [])
but_of_its_parent = refl

-- ---- `if` and `while` are evaluated where the action stands: b is there, and not in a

an_if_out_of_the_context : seen numbers (done (given_that (to (codes "b")) (bound (beside (codes "b")) (doing (delete_in (to (codes "a"))))))) ≡ Some (5 ∷ 0 ∷ 1 ∷ 2 ∷ [])
an_if_out_of_the_context = refl

no_if_in_the_context : seen numbers (done (given_that (beside (codes "b")) (bound (beside (codes "b")) (doing (delete_in (to (codes "a"))))))) ≡ Some (5 ∷ 0 ∷ 1 ∷ 2 ∷ 3 ∷ 4 ∷ [])
no_if_in_the_context = refl

a_while_out_of_the_context : seen numbers (done (during (to (codes "b")) (bound (beside (codes "b")) (doing (delete_in (to (codes "a"))))))) ≡ Some (5 ∷ 0 ∷ 1 ∷ 2 ∷ [])
a_while_out_of_the_context = refl

an_if_of_an_insert : seen numbers (done (given_that (beside (codes "b")) (doing (inserting (Some itself) (Some (to (codes "a"))) None)))) ≡ Some (5 ∷ 0 ∷ 1 ∷ 2 ∷ 3 ∷ 4 ∷ [])
an_if_of_an_insert = refl

-- ---- the node that a setvalue binds stands alone: in the second row its `value` `position()` is 1, while the row has the place 2

abbrev in_rows : Part → Program
in_rows part = Examples.form
    (element None (1 ∷ 3 ∷ []) sort.host role.other ∷ model (2 ∷ []) ∷ instance
    ∷ bound children (element (Some 0) (4 ∷ []) (sort.repeated 0 1) role.other)
    ∷ named (codes "x") (element (Some 3) (5 ∷ 6 ∷ []) sort.field role.trigger)
    ∷ part
    ∷ element (Some 5) [] (sort.inline (Some (call 29 []).meaning)) role.other ∷ []) [] (3 ∷ []) [] pair

abbrev in_the_second_row : Part → Outcome
in_the_second_row part = then (start profile (in_rows part) []) (Activate (codes "x") (2 ∷ []))

abbrev values : State → List (List ℕ)
values s = map (λ n. string_value n (all_in s)) (1 ∷ 3 ∷ [])

a_bound_node_alone : seen values (in_the_second_row (bound itself (on (codes "DOMActivate") 4 [] (role.set_value (Some (call 29 []).meaning))))) ≡ Some (codes "1" ∷ codes "1" ∷ [])
unfolding scale digits
a_bound_node_alone = refl

a_row_at_its_place : notes (in_the_second_row (on (codes "DOMActivate") 4 (6 ∷ []) role.message)) ≡ Some (Message (codes "2") ∷ [])
unfolding escape_byte scale digits
a_row_at_its_place = refl

-- ---- an insert whose `at` makes a string that is too long: without an origin node it is not evaluated

abbrev placed : Meaning → Outcome
placed origin = after (start narrow (asking [] pair (bound children (doing (inserting None (Some origin) (Some (call 6 (literal (codes "a") ∷ literal (codes "b") ∷ [])).meaning))))) [])

no_place_without_an_origin : why (placed (to (codes "zz"))) ≡ None
no_place_without_an_origin = refl

a_place_with_one : why (placed (to (codes "a"))) ≡ Some (limit (word.Long ∷ []))
a_place_with_one = refl

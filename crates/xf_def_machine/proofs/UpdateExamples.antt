-- When updates fall due, how deep their notifications go, and in which order a form starts.
use Rattle.std.proofs.Common.{◌≡◌, ℕ, ◌-◌, true, false, List, [], ◌∷◌, map, Option, Some, None, refl, codes}
use Rattle.std.specs.Prelude.{Result, Ok, Err}
use Rattle.std.specs.Fmt.{digits}
use Rattle.std.specs.Str.{is_utf8, chars}
use lib.Utf8.{encode}
use Rattle.json.specs.Print.{escape_byte}
use Rattle.xf_num.specs.Number.{scale}
use Rattle.xf_name.specs.declared.axis.Axis.TheVariants as axis
use Rattle.xf_def_syntax.specs.declared.form.Method.TheVariants.{Put, Get}
use Rattle.xf_def_syntax.specs.declared.form.Replace.TheVariants as replace
use Rattle.xf_def_forest.specs.StringValue.{string_value}
use Rattle.xf_def_xpath.specs.Setting.{Meaning}
use Rattle.xf_def_xpath.specs.Examples.{simple, step, child, path, from_root, number}
use Rattle.xf_line.specs.declared.event.Event.TheVariants.{Set, Activate, Send, Reset}
use Rattle.xf_store.specs.declared.answers.Answer.TheVariants as answer
use Rattle.xf_def_ui.specs.Interface as sort
use Rattle.xf_def_machine.specs.declared.note.Note.{Note}
use Rattle.xf_def_machine.specs.declared.note.Note.TheVariants.{Message}
use Rattle.xf_def_machine.specs.Program.{Program, Work}
use Rattle.xf_def_machine.specs.Program as role
use Rattle.xf_def_machine.specs.Refusal.{Refused, depth}
use Rattle.xf_def_machine.specs.State.{State}
use Rattle.xf_def_machine.specs.Surround.{all_in}
use Rattle.xf_def_machine.specs.Step.{Outcome, fresh, changed_by}
use Rattle.xf_def_machine.specs.Update.{is_due}
use Rattle.xf_def_machine.specs.Start.{start}
use Rattle.xf_def_machine.specs.Examples
use Rattle.xf_def_machine.specs.Examples.{Part, profile, element, bound, named, saying, model, instance, on, inner, given_that, to, itself, index_of, element_at, text_at}
use Rattle.xf_def_machine.specs.ExampleOutcomes.{seen, given_out, why, then, then_with}
use Rattle.xf_def_machine.specs.ExampleEvents.{pair, as_it_is, no}
use Rattle.xf_def_machine.specs.ExampleSends.{sending, with_submission, one}

abbrev notes : Outcome → Option (List Note)
notes = given_out (λ g. g.notes)

abbrev says : List (List ℕ) → Option (List Note)
says texts = Some (map Message texts)

-- ---- the indexes that an activation takes: the trigger x in each row, and an output of index('r') with a handler of its change

abbrev rowed : (Part → Part) → Work → Program
rowed more work = Examples.form
    (element None (1 ∷ 3 ∷ 6 ∷ []) sort.host role.other
    ∷ model (2 ∷ [])
    ∷ instance
    ∷ named (codes "r") (bound (to (codes "row")) (element (Some 0) (4 ∷ []) (sort.repeated 0 1) role.other))
    ∷ named (codes "x") (element (Some 3) (5 ∷ []) sort.field role.trigger)
    ∷ saying (codes "act") (on (codes "DOMActivate") 4 [] role.message)
    ∷ element (Some 0) (7 ∷ []) (sort.output (Some (index_of (codes "r")))) role.other
    ∷ saying (codes "idx") (more (on (codes "xforms-value-changed") 6 [] work))
    ∷ []) [] (3 ∷ []) [] (element_at 0 (codes "d") ∷ element_at 1 (codes "row") ∷ element_at 1 (codes "row") ∷ [])

abbrev in_the_second_row : Program → Outcome
in_the_second_row form = then (start profile form []) (Activate (codes "x") (2 ∷ []))

-- the update comes before the event, not behind its first handler
indexes_before_the_event : notes (in_the_second_row (rowed as_it_is role.message)) ≡ says (codes "idx" ∷ codes "act" ∷ [])
unfolding escape_byte scale digits
indexes_before_the_event = refl

-- that update takes the row away, and then the other one: the event goes to the copy that was named all the same
to_a_copy_that_is_gone :
    notes (in_the_second_row (rowed (bound (to (codes "row"))) (role.delete (record { context = None; at = Some (number 2).meaning }))))
    ≡ says (codes "act" ∷ [])
unfolding escape_byte scale digits
to_a_copy_that_is_gone = refl

the_rows_are_gone :
    seen (λ s. map (λ x. x.number) s.forest.nodes) (in_the_second_row (rowed (bound (to (codes "row"))) (role.delete (record { context = None; at = Some (number 2).meaning }))))
    ≡ Some (3 ∷ 0 ∷ [])
unfolding escape_byte scale digits
the_rows_are_gone = refl

-- ---- depth: a change of i tells p, and p tells q; at most three dispatches stand one in the other

abbrev telling : List ℕ → Work
telling name = role.dispatch (record { name = name; target = 3; bubbles = true; is_cancelable = true })

abbrev chained : Program
chained = Examples.form
    (element None (1 ∷ 3 ∷ 6 ∷ []) sort.host role.other
    ∷ model (2 ∷ [])
    ∷ instance
    ∷ named (codes "i") (bound (to (codes "a")) (element (Some 0) (4 ∷ 5 ∷ []) sort.field role.entry))
    ∷ on (codes "xforms-value-changed") 3 [] (telling (codes "p"))
    ∷ on (codes "p") 3 [] (telling (codes "q"))
    ∷ named (codes "x") (element (Some 0) (7 ∷ []) sort.field role.trigger)
    ∷ saying (codes "5") (bound (to (codes "a")) (on (codes "DOMActivate") 6 [] (role.set_value None)))
    ∷ []) [] [] [] pair

-- behind a handler the notifications stand in the dispatch for which it is called
one_deeper_behind_a_handler : why (then (start profile chained []) (Activate (codes "x") [])) ≡ Some depth
unfolding escape_byte
one_deeper_behind_a_handler = refl

-- behind the change that a line makes itself they stand in none
outermost_behind_a_line : why (then (start profile chained []) (Set (codes "i") [] (codes "5"))) ≡ None
unfolding escape_byte
outermost_behind_a_line = refl

-- ---- in a default action: the end of a submission sets a, which tells a change of i, and adds a note

abbrev ending : Program
ending = with_submission (sending Put replace.Nothing (codes "o")) (Examples.form
    (element None (1 ∷ 6 ∷ []) sort.host role.other
    ∷ model (2 ∷ 3 ∷ [])
    ∷ instance
    ∷ named (codes "s") (element (Some 1) (4 ∷ 5 ∷ []) sort.other (role.submission 0))
    ∷ saying (codes "9") (bound (to (codes "a")) (on (codes "xforms-submit-done") 3 [] (role.set_value None)))
    ∷ saying (codes "end") (on (codes "xforms-submit-done") 3 [] role.message)
    ∷ bound (to (codes "a")) (element (Some 0) (7 ∷ []) sort.field role.entry)
    ∷ saying (codes "changed") (on (codes "xforms-value-changed") 6 [] role.message)
    ∷ []) [] [] [] pair)

-- a default action is no action: the update comes behind the first handler in it
between_two_handlers : notes (then_with (answer.PutDone ∷ []) (start profile ending []) (Send (codes "s"))) ≡ says (codes "changed" ∷ codes "end" ∷ [])
unfolding escape_byte
between_two_handlers = refl

-- ---- the start: all models are told of their construction, then that it is done, then that all is ready

abbrev starting : Program
starting = Examples.form
    (element None (1 ∷ []) sort.host role.other
    ∷ model (2 ∷ 3 ∷ 4 ∷ 5 ∷ 6 ∷ [])
    ∷ instance
    ∷ saying (codes "ready") (on (codes "xforms-ready") 1 [] role.message)
    ∷ saying (codes "done") (on (codes "xforms-model-construct-done") 1 [] role.message)
    ∷ saying (codes "construct") (on (codes "xforms-model-construct") 1 [] role.message)
    ∷ saying (codes "9") (bound (to (codes "a")) (on (codes "xforms-ready") 1 [] (role.set_value None)))
    ∷ []) [] [] [] pair

in_this_order : notes (start profile starting []) ≡ says (codes "construct" ∷ codes "done" ∷ codes "ready" ∷ [])
unfolding escape_byte
in_this_order = refl

abbrev text_of : ℕ → State → List ℕ
text_of n s = string_value n (all_in s)

set_by_the_start : seen (text_of 1) (start profile starting []) ≡ Some (codes "9")
unfolding escape_byte
set_by_the_start = refl

-- a reset puts back what stood before the events of the start; node 8 is the a of the new tree
before_the_start : seen (text_of 8) (then (start profile starting []) (Reset [])) ≡ Some (codes "1")
unfolding escape_byte
before_the_start = refl

-- ---- a set in a row is one change with one update: the index becomes 2, of which the output of index('r') tells, by when the text is set too

abbrev set_in_a_row : Program
set_in_a_row = Examples.form
    (element None (1 ∷ 3 ∷ 5 ∷ []) sort.host role.other
    ∷ model (2 ∷ [])
    ∷ instance
    ∷ named (codes "r") (bound (to (codes "row")) (element (Some 0) (4 ∷ []) (sort.repeated 0 1) role.other))
    ∷ named (codes "i") (bound itself (element (Some 3) [] sort.field role.entry))
    ∷ element (Some 0) (6 ∷ []) (sort.output (Some (index_of (codes "r")))) role.other
    ∷ bound (path (step axis.Child (simple (codes "row")) (number 2 ∷ []) ∷ [])).meaning (on (codes "xforms-value-changed") 5 [] role.message)
    ∷ []) [] (3 ∷ []) [] (element_at 0 (codes "d") ∷ element_at 1 (codes "row") ∷ text_at 2 (codes "1") ∷ element_at 1 (codes "row") ∷ text_at 2 (codes "2") ∷ [])

one_update_after_both : notes (then (start profile set_in_a_row []) (Set (codes "i") (2 ∷ []) (codes "5"))) ≡ says (codes "5" ∷ [])
unfolding escape_byte scale digits
one_update_after_both = refl

-- ---- the notifications of a refresh that an action asks for: the trigger x sets a and asks for the refresh, while the change of i tells p

abbrev refreshing : Work → Program
refreshing last = Examples.form
    (element None (1 ∷ 3 ∷ 5 ∷ []) sort.host role.other
    ∷ model (2 ∷ [])
    ∷ instance
    ∷ named (codes "i") (bound (to (codes "a")) (element (Some 0) (4 ∷ []) sort.field role.entry))
    ∷ on (codes "xforms-value-changed") 3 [] (telling (codes "p"))
    ∷ named (codes "x") (element (Some 0) (6 ∷ []) sort.field role.trigger)
    ∷ on (codes "DOMActivate") 5 (7 ∷ 8 ∷ []) role.all_in_it
    ∷ saying (codes "5") (bound (to (codes "a")) (inner 6 (role.set_value None)))
    ∷ inner 6 last
    ∷ []) [] [] [] pair

-- one deeper than the dispatch of the refresh, which itself stands in that of the activation: p would be the fourth
one_deeper_than_the_refresh : why (then (start profile (refreshing (role.on_model (codes "xforms-refresh"))) []) (Activate (codes "x") [])) ≡ Some depth
unfolding escape_byte
one_deeper_than_the_refresh = refl

-- without that action the update behind the handler tells them, one deeper than the activation
behind_the_handler : why (then (start profile (refreshing role.all_in_it) []) (Activate (codes "x") [])) ≡ None
unfolding escape_byte
behind_the_handler = refl

-- ---- a submission sets a, or has it set by what it gets; then p is told, which tells q: by the change of i or by the end

abbrev told_by_end : (Part → Part) → (Part → Part) → Program
told_by_end by_change by_end = with_submission (record (sending Get replace.Text (codes "r")) { is_relevant = false; is_validated = false }) (Examples.form
    (element None (1 ∷ 5 ∷ []) sort.host role.other
    ∷ model (2 ∷ 3 ∷ [])
    ∷ instance
    ∷ named (codes "s") (element (Some 1) (4 ∷ []) sort.other (role.submission 0))
    ∷ by_end (on (codes "xforms-submit-done") 3 [] (role.dispatch (record { name = codes "p"; target = 5; bubbles = true; is_cancelable = true })))
    ∷ named (codes "i") (bound itself (element (Some 0) (6 ∷ 7 ∷ []) sort.field role.entry))
    ∷ by_change (on (codes "xforms-value-changed") 5 [] (role.dispatch (record { name = codes "p"; target = 5; bubbles = true; is_cancelable = true })))
    ∷ on (codes "p") 5 [] (role.dispatch (record { name = codes "q"; target = 5; bubbles = true; is_cancelable = true }))
    ∷ []) [] [] [] one)

abbrev got : Program → Outcome
got form = then_with (answer.Found (codes "7") ∷ []) (start profile form []) (Send (codes "s"))

-- both stand one deeper than the dispatch of the submission
its_notifications : why (got (told_by_end as_it_is (given_that no))) ≡ Some depth
unfolding escape_byte is_utf8 chars encode
its_notifications = refl

its_end : why (got (told_by_end (given_that no) as_it_is)) ≡ Some depth
unfolding escape_byte is_utf8 chars encode
its_end = refl

neither_of_them : why (got (told_by_end (given_that no) (given_that no))) ≡ None
unfolding escape_byte is_utf8 chars encode
neither_of_them = refl

-- ---- the event of docs/MACHINE.md: the input q on /d/qty, a change of which inserts a row of /d/row, over ["d",["qty","1"],["row","a"]]

abbrev all_rows : Meaning
all_rows = (from_root (child (codes "d") ∷ child (codes "row") ∷ [])).meaning

abbrev worked : Program
worked = Examples.form
    (element None (1 ∷ 3 ∷ 5 ∷ []) sort.host role.other
    ∷ model (2 ∷ [])
    ∷ instance
    ∷ named (codes "q") (bound (to (codes "qty")) (element (Some 0) (4 ∷ []) sort.field role.entry))
    ∷ bound all_rows (on (codes "xforms-value-changed") 3 [] (role.insert (record { context = None; origin = None; at = None; is_before = false })))
    ∷ bound all_rows (element (Some 0) [] (sort.repeated 0 1) role.other)
    ∷ []) [] (5 ∷ []) [] (element_at 0 (codes "d") ∷ element_at 1 (codes "qty") ∷ text_at 2 (codes "1") ∷ element_at 1 (codes "row") ∷ text_at 2 (codes "a") ∷ [])

-- the state before its end, with what the event has used up
abbrev looked : {X : Type 0} → (State → X) → Result State Refused → Option X
looked look (Err refusal) = None
looked look (Ok s) = Some (look s)

abbrev used : {X : Type 0} → (State → X) → Option (Option X)
used look = seen (λ s. looked look (changed_by profile [] (Set (codes "q") [] (codes "2")) (fresh profile s))) (start profile worked [])

-- two rounds, and two events that are told, spend a turn each
four_turns : used (λ s. s.turns) ≡ Some (Some (profile.turns - 4))
four_turns = refl

-- the text of qty, and a copy of the row with its text
three_nodes : used (λ s. s.made) ≡ Some (Some 3)
three_nodes = refl

behind_the_row : used (λ s. map (λ x. x.number) s.forest.nodes) ≡ Some (Some (5 ∷ 0 ∷ 1 ∷ 6 ∷ 3 ∷ 4 ∷ 7 ∷ 8 ∷ []))
behind_the_row = refl

at_the_new_row : used (λ s. map (λ i. i.index) s.indexes) ≡ Some (Some (2 ∷ []))
at_the_new_row = refl

nothing_is_due : used is_due ≡ Some (Some false)
nothing_is_due = refl

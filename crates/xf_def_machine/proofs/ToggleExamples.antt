-- What a toggle does: the case changes first, then the old case and the new one are told.
use Rattle.std.proofs.Common.{◌≡◌, ℕ, true, false, List, [], ◌∷◌, Option, Some, None, refl, codes}
use Rattle.json.specs.Print.{escape_byte}
use Rattle.xf_line.specs.declared.event.Event.TheVariants.{Set, Activate}
use Rattle.xf_def_ui.specs.Interface as sort
use Rattle.xf_def_machine.specs.declared.note.Note.{Note}
use Rattle.xf_def_machine.specs.declared.note.Note.TheVariants.{Message}
use Rattle.xf_def_machine.specs.Program.{Program, Work}
use Rattle.xf_def_machine.specs.Program as role
use Rattle.xf_def_machine.specs.Refusal.{disabled}
use Rattle.xf_def_machine.specs.Step.{Outcome}
use Rattle.xf_def_machine.specs.Start.{start}
use Rattle.xf_def_machine.specs.Examples
use Rattle.xf_def_machine.specs.Examples.{profile, element, bound, named, saying, model, instance, on, to}
use Rattle.xf_def_machine.specs.ExampleOutcomes.{seen, given_out, why, then}
use Rattle.xf_def_machine.specs.ExampleEvents.{pair}

-- the switch 3 with the cases 4 and 6, the first of which does this as it is deselected; the trigger x toggles to this case
abbrev switching : Work → ℕ → Program
switching work one = Examples.form
    (element None (1 ∷ 3 ∷ 8 ∷ []) sort.host role.other
    ∷ model (2 ∷ [])
    ∷ instance
    ∷ element (Some 0) (4 ∷ 6 ∷ []) (sort.switch 0) role.other
    ∷ element (Some 3) (5 ∷ []) (sort.one_case false) role.other
    ∷ saying (codes "out") (on (codes "xforms-deselect") 4 [] work)
    ∷ element (Some 3) (7 ∷ []) (sort.one_case false) role.other
    ∷ saying (codes "in") (on (codes "xforms-select") 6 [] role.message)
    ∷ named (codes "x") (element (Some 0) (9 ∷ []) sort.field role.trigger)
    ∷ on (codes "DOMActivate") 8 [] (role.toggle one)
    ∷ []) [] [] (3 ∷ []) pair

abbrev toggled : Work → ℕ → Outcome
toggled work one = then (start profile (switching work one) []) (Activate (codes "x") [])

abbrev notes : Outcome → Option (List Note)
notes = given_out (λ g. g.notes)

out_and_in : notes (toggled role.message 6) ≡ Some (Message (codes "out") ∷ Message (codes "in") ∷ [])
unfolding escape_byte
out_and_in = refl

the_second_case : seen (λ s. s.cases) (toggled role.message 6) ≡ Some (1 ∷ [])
unfolding escape_byte
the_second_case = refl

-- to the case that is selected it has no effect
the_same_case : notes (toggled role.message 4) ≡ Some []
the_same_case = refl

-- the handler of the old case goes back to it; the new case is told all the same
told_though_it_went_back : notes (toggled (role.toggle 4) 6) ≡ Some (Message (codes "in") ∷ [])
unfolding escape_byte
told_though_it_went_back = refl

the_first_case_again : seen (λ s. s.cases) (toggled (role.toggle 4) 6) ≡ Some (0 ∷ [])
unfolding escape_byte
the_first_case_again = refl

-- ---- an input on a in each case, 5 in the first and 7 in the second, which tell that they are disabled and enabled

abbrev with_inputs : Program
with_inputs = Examples.form
    (element None (1 ∷ 3 ∷ 10 ∷ []) sort.host role.other
    ∷ model (2 ∷ [])
    ∷ instance
    ∷ element (Some 0) (4 ∷ 7 ∷ []) (sort.switch 0) role.other
    ∷ element (Some 3) (5 ∷ []) (sort.one_case false) role.other
    ∷ named (codes "i") (bound (to (codes "a")) (element (Some 4) (6 ∷ []) sort.field role.entry))
    ∷ saying (codes "i is enabled") (on (codes "xforms-enabled") 5 [] role.message)
    ∷ element (Some 3) (8 ∷ []) (sort.one_case true) role.other
    ∷ named (codes "j") (bound (to (codes "a")) (element (Some 7) (9 ∷ []) sort.field role.entry))
    ∷ saying (codes "j is disabled") (on (codes "xforms-disabled") 8 [] role.message)
    ∷ named (codes "x") (element (Some 0) (11 ∷ []) sort.field role.trigger)
    ∷ on (codes "DOMActivate") 10 [] (role.toggle 4)
    ∷ []) [] [] (3 ∷ []) pair

abbrev begun : Outcome
begun = start profile with_inputs []

the_case_that_is_written : seen (λ s. s.cases) begun ≡ Some (1 ∷ [])
the_case_that_is_written = refl

in_a_case_that_is_not_selected : why (then begun (Set (codes "i") [] (codes "5"))) ≡ Some disabled
in_a_case_that_is_not_selected = refl

in_the_selected_case : why (then begun (Set (codes "j") [] (codes "5"))) ≡ None
in_the_selected_case = refl

abbrev toggled_back : Outcome
toggled_back = then begun (Activate (codes "x") [])

-- the update behind the handler tells them
both_inputs_are_told : notes toggled_back ≡ Some (Message (codes "i is enabled") ∷ Message (codes "j is disabled") ∷ [])
unfolding escape_byte
both_inputs_are_told = refl

and_may_be_set : why (then toggled_back (Set (codes "i") [] (codes "5"))) ≡ None
unfolding escape_byte
and_may_be_set = refl

but_not_the_other : why (then toggled_back (Set (codes "j") [] (codes "5"))) ≡ Some disabled
unfolding escape_byte
but_not_the_other = refl

-- ---- a switch in a repeat over zz: of its cases there is none that could be named

abbrev in_a_repeat : List ℕ → Program
in_a_repeat name = Examples.form
    (element None (1 ∷ 3 ∷ 8 ∷ []) sort.host role.other
    ∷ model (2 ∷ [])
    ∷ instance
    ∷ bound (to name) (element (Some 0) (4 ∷ []) (sort.repeated 0 1) role.other)
    ∷ element (Some 3) (5 ∷ 6 ∷ []) (sort.switch 0) role.other
    ∷ element (Some 4) [] (sort.one_case false) role.other
    ∷ element (Some 4) (7 ∷ []) (sort.one_case false) role.other
    ∷ saying (codes "in") (on (codes "xforms-select") 6 [] role.message)
    ∷ named (codes "x") (element (Some 0) (9 ∷ []) sort.field role.trigger)
    ∷ on (codes "DOMActivate") 8 [] (role.toggle 6)
    ∷ []) [] (3 ∷ []) (4 ∷ []) pair

abbrev toggled_in : List ℕ → Outcome
toggled_in name = then (start profile (in_a_repeat name) []) (Activate (codes "x") [])

in_a_row : notes (toggled_in (codes "a")) ≡ Some (Message (codes "in") ∷ [])
unfolding escape_byte
in_a_row = refl

in_none : seen (λ s. s.cases) (toggled_in (codes "zz")) ≡ Some (0 ∷ [])
in_none = refl

-- What is written.
use Rattle.std.proofs.Common.{◌≡◌, true, false, [], ◌∷◌, Some, None, refl, codes}
use Rattle.std.specs.Fmt.{digits}
use Rattle.xf_name.specs.Part.{is_part}
use Rattle.json.specs.Print.{escape_byte}
use Rattle.xf_line.specs.declared.event.Event.TheVariants.{Set}
use Rattle.xf_def_machine.specs.declared.limit.LimitWord.TheVariants as word
use Rattle.xf_def_machine.specs.Refusal.{limit, circular, depth, binding as exception}
use Rattle.xf_def_machine.specs.State.{State}
use Rattle.xf_def_machine.specs.Construct.{unbuilt}
use Rattle.xf_def_machine.specs.Step.{Outcome}
use Rattle.xf_def_machine.specs.Start.{start}
use Rattle.xf_def_machine.specs.ControlText.{state_text}
use Rattle.xf_def_machine.specs.Properties.{braced}
use Rattle.xf_def_machine.specs.StateText.{id_text}
use Rattle.xf_def_machine.specs.Replies.{refusal_texts, reply_outcome}
use Rattle.xf_def_machine.specs.FormReplies.{form_texts, ready_text}
use Rattle.xf_def_ui.specs.Interface as sort
use Rattle.xf_def_machine.specs.Program.{Program}
use Rattle.xf_def_machine.specs.Program as role
use Rattle.xf_def_machine.specs.Examples.{profile, form, element, bound, model, instance, to}
use Rattle.xf_def_machine.specs.ExampleOutcomes.{seen, then}
use Rattle.xf_def_machine.specs.ExampleEvents.{pair}
use Rattle.xf_def_machine.specs.ExampleBinds.{binding, b_by_a}

abbrev first : Outcome
first = start profile (binding (b_by_a ∷ [])) []

abbrev no_state : State
no_state = unbuilt profile (binding [])

-- an input on a, which has no id
abbrev nameless : Program
nameless = form
    (element None (1 ∷ 3 ∷ []) sort.host role.other ∷ model (2 ∷ []) ∷ instance
    ∷ bound (to (codes "a")) (element (Some 0) [] sort.field role.entry) ∷ []) (b_by_a ∷ []) [] [] pair

the_state : seen (state_text profile) (start profile nameless [])
    ≡ Some (codes "instance 1.1\n/d ew-v\n/d/a ew-v \"1\"\n/d/b e--v \"1\"\ncontrol #1 [] ew-v \"1\"\nend\n")
unfolding escape_byte digits
the_state = refl

-- a select of nothing, with an item that says nothing
abbrev choiceless : Program
choiceless = form
    (element None (1 ∷ 3 ∷ []) sort.host role.other ∷ model (2 ∷ []) ∷ instance
    ∷ bound (to (codes "c")) (element (Some 0) (4 ∷ []) (sort.select false false) role.entry) ∷ element (Some 3) [] sort.item role.other ∷ []) [] [] [] pair

-- without a value no item is chosen
not_chosen : seen (state_text profile) (start profile choiceless [])
    ≡ Some (codes "instance 1.1\n/d ew-v\n/d/a ew-v \"1\"\n/d/b ew-v \"2\"\ncontrol #1 [] -w-v\nitem #1 [] \"\" \"\" -\nend\n")
unfolding escape_byte digits
not_chosen = refl

accepted : (reply_outcome true no_state (then first (Set (codes "i") [] (codes "5")))).texts ≡ codes "ok 1 1\n" ∷ []
unfolding digits
accepted = refl

not_counted : (reply_outcome false no_state (then first (Set (codes "i") [] (codes "5")))).texts ≡ codes "ok 1\n" ∷ []
unfolding digits
not_counted = refl

no_target : (reply_outcome true no_state (then first (Set (codes "j") [] (codes "5")))).texts ≡ codes "no E4 NoSuchTarget\n" ∷ []
no_target = refl

-- either word may be told
several_limits : refusal_texts (limit (word.Nodes ∷ word.All ∷ [])) ≡ codes "no E11 Limit nodes" ∷ codes "no E11 Limit all" ∷ []
several_limits = refl

a_cycle : form_texts (circular (codes "/d/a" ∷ codes "/d/b" ∷ [])) ≡ codes "form F15 Circular /d/a /d/b" ∷ []
a_cycle = refl

not_ready : ready_text depth ≡ codes "form F18 Ready E13 Depth"
not_ready = refl

-- the number and the name alone, without the path
not_ready_by_a_binding : ready_text (exception (codes "/d")) ≡ codes "form F18 Ready E9 Binding"
not_ready_by_a_binding = refl

-- ---- paths

of_the_first_instance : braced (1, 1) ≡ []
of_the_first_instance = refl

of_another_instance : braced (1, 2) ≡ codes "{1.2}"
unfolding digits
of_another_instance = refl

-- ---- ids

a_name_part : is_part (codes "a-1") ≡ true → id_text (codes "a-1") ≡ codes "a-1"
a_name_part part = rw part refl

no_name_part : is_part (codes "a 1") ≡ false → id_text (codes "a 1") ≡ codes "\"a 1\""
unfolding escape_byte
no_name_part part = rw part refl

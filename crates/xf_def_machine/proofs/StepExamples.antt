-- The refusals of an event from outside, in their order; and states at rest.
use Rattle.std.proofs.Common.{◌≡◌, ℕ, true, List, [], ◌∷◌, Option, Some, None, refl, codes}
use Rattle.xf_line.specs.declared.event.Event.{Event}
use Rattle.xf_line.specs.declared.event.Event.TheVariants.{Set, Activate, Index, Send, Dispatch, Reset}
use Rattle.xf_def_forest.specs.StringValue.{string_value}
use Rattle.xf_def_xpath.specs.Examples.{functions}
use Rattle.xf_def_model.specs.Rules.{Rule}
use Rattle.xf_def_model.specs.Examples as bind
use Rattle.xf_def_machine.specs.Profile.{Profile, usual}
use Rattle.xf_def_machine.specs.State.{State}
use Rattle.xf_def_machine.specs.Refusal.{Refusal, no_target, disabled, readonly, not_an_item}
use Rattle.xf_def_machine.specs.Surround.{all_in}
use Rattle.xf_def_machine.specs.Step.{Outcome, accepted, refused, step}
use Rattle.xf_def_machine.specs.Start.{start}
use Rattle.xf_def_machine.specs.Examples.{profile}
use Rattle.xf_def_machine.specs.ExampleOutcomes.{seen, why, then}
use Rattle.xf_def_machine.specs.ExampleSends.{choosing, of_a}

abbrev tried : List Rule → Event → Option Refusal
tried rules event = why (then (start profile (choosing rules) []) event)

abbrev set_m : List ℕ → List ℕ → Event
set_m rows text = Set (codes "m") rows text

-- a is readonly; it is not relevant either
abbrev closed : List Rule
closed = bind.readonly bind.yes of_a ∷ []

abbrev hidden : List Rule
hidden = bind.relevant bind.no (bind.readonly bind.yes of_a) ∷ []

-- ---- E4 to E8

no_such_id : tried hidden (Set (codes "z") [] (codes "y")) ≡ Some no_target
no_such_id = refl

another_kind : tried hidden (Set (codes "t") [] (codes "y")) ≡ Some no_target
another_kind = refl

too_many_rows : tried hidden (set_m (1 ∷ []) (codes "y")) ≡ Some no_target
too_many_rows = refl

-- it is readonly too, and the text is no item's value
disabled_first : tried hidden (set_m [] (codes "y")) ≡ Some disabled
disabled_first = refl

then_readonly : tried closed (set_m [] (codes "y")) ≡ Some readonly
then_readonly = refl

then_not_an_item : tried [] (set_m [] (codes "y")) ≡ Some not_an_item
then_not_an_item = refl

an_item : tried [] (set_m [] (codes "x")) ≡ None
an_item = refl

no_repeat : tried [] (Index (codes "m") 1) ≡ Some no_target
no_repeat = refl

no_submission : tried [] (Send (codes "m")) ≡ Some no_target
no_submission = refl

no_model : tried [] (Reset (codes "m")) ≡ Some no_target
no_model = refl

an_event_to_any : tried [] (Dispatch (codes "e") (codes "m")) ≡ None
an_event_to_any = refl

-- ---- what is set

abbrev text : State → List ℕ
text s = string_value 1 (all_in s)

the_text : seen text (then (start profile (choosing []) []) (set_m [] (codes "x"))) ≡ Some (codes "x")
the_text = refl

-- how many events were accepted
one_more : seen (λ s. s.accepted) (then (then (start profile (choosing []) []) (set_m [] (codes "x"))) (Activate (codes "t") [])) ≡ Some 2
one_more = refl

-- ---- with the budgets and limits of every form an event is computed as well

abbrev whole_profile : Profile
whole_profile = usual functions (λ types type text. true)

abbrev next : Outcome → Event → Outcome
next (accepted s given) event = step whole_profile s event []
next (refused reason calls) event = refused reason calls

abbrev begun : Outcome
begun = start whole_profile (choosing []) []

all_turns : seen (λ s. s.turns) (next begun (set_m [] (codes "x"))) ≡ Some 50000
all_turns = refl

the_same_text : seen text (next begun (set_m [] (codes "x"))) ≡ Some (codes "x")
the_same_text = refl

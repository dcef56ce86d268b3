-- Small states that meet what the laws ask, and what comes where one thing of it is wanting.
use Rattle.std.proofs.Common.{◌≡◌, true, false, [], ◌∷◌, map, Some, None, refl, codes}
use Rattle.std.specs.List.{list_any}
use Rattle.xf_line.specs.declared.event.Event.{Event}
use Rattle.xf_line.specs.declared.event.Event.TheVariants.{Activate}
use Rattle.xf_def_ui.specs.Interface as sort
use Rattle.xf_def_machine.specs.Program.{Program}
use Rattle.xf_def_machine.specs.Program as role
use Rattle.xf_def_machine.specs.State.{State}
use Rattle.xf_def_machine.specs.Primitives.{texts_due, with_text_mark}
use Rattle.xf_def_machine.specs.Construct.{unbuilt}
use Rattle.xf_def_machine.specs.Step.{Outcome, accepted, refused, step}
use Rattle.xf_def_machine.specs.Start.{start}
use Rattle.xf_def_machine.specs.AtRest.{is_empty_text}
use Rattle.xf_def_machine.specs.Examples
use Rattle.xf_def_machine.specs.Examples.{profile, element, named, model, instance, element_at, text_at}
use Rattle.xf_def_machine.specs.ExampleOutcomes.{seen}
use Rattle.xf_law_machine.specs.Rest.Rests.{Within, Rests, is_filled}

-- a form with a trigger x, over these data
abbrev silent : Examples.Tree → Program
silent document = Examples.form
    (element None (1 ∷ 3 ∷ []) sort.host role.other ∷ model (2 ∷ []) ∷ instance
    ∷ named (codes "x") (element (Some 0) [] sort.field role.trigger) ∷ []) [] [] [] document

-- ["d","1"]
abbrev one : Program
one = silent (element_at 0 (codes "d") ∷ text_at 1 (codes "1") ∷ [])

abbrev state_of : Outcome → State
state_of (accepted s posted) = s
state_of (refused why calls) = unbuilt profile one

abbrev begun : State
begun = state_of (start profile one [])

abbrev at_x : Event
at_x = Activate (codes "x") []

-- ---- what the laws ask

its_texts_are_filled : is_filled one ≡ true
its_texts_are_filled = refl

it_rests : Rests profile begun
it_rests = record {
  is_due = refl;
  unmarked = (record { texts = refl; lists = refl }, tt);
  model_count = refl;
  edges = refl;
  attached = refl;
  filled = refl;
  texts = refl;
  is_fresh = refl;
}

-- within an event, after a text was set: what is marked is due
abbrev changed : State
changed = record begun { models = map (λ m. texts_due (with_text_mark 0 m)) begun.models }

it_is_within : Within profile changed
it_is_within = record {
  chained = (record { rebuild = λ e. refl; recalculate = λ e. refl; revalidate = λ e. refl }, tt);
  marked = ((λ e. cc), tt);
  model_count = refl;
  edges = refl;
  filled = refl;
  texts = refl;
}

-- ---- without it

-- a mark that is not due stays: an event that changes nothing has nothing to update
abbrev marked : State
marked = record begun { models = map (with_text_mark 0) begun.models }

a_mark_stays : seen (λ s. map (λ m. m.texts) s.models) (step profile marked at_x []) ≡ Some ((0 ∷ []) ∷ [])
a_mark_stays = refl

-- but one that is due goes with the first update
a_mark_goes : seen (λ s. map (λ m. m.texts) s.models) (step profile changed at_x []) ≡ Some ([] ∷ [])
a_mark_goes = refl

-- data with an empty text, as no form that is loaded has: it stands after the start
abbrev unfilled : Program
unfilled = silent (element_at 0 (codes "d") ∷ text_at 1 [] ∷ [])

not_filled : is_filled unfilled ≡ false
not_filled = refl

an_empty_text_stands : seen (λ s. list_any is_empty_text s.forest.nodes) (start profile unfilled []) ≡ Some true
an_empty_text_stands = refl

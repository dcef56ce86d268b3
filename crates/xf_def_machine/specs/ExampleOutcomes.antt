-- What is seen of the outcomes of the example forms.
use Rattle.std.specs.Prelude.{List, [], Option, Some, None}
use Rattle.xf_line.specs.declared.event.Event.{Event}
use Rattle.xf_store.specs.declared.answers.Answer.{Answer}
use Rattle.xf_def_machine.specs.State.{State}
use Rattle.xf_def_machine.specs.Refusal.{Refusal}
use Rattle.xf_def_machine.specs.Step.{Posted, Outcome, accepted, refused, step}
use Rattle.xf_def_machine.specs.Examples.{profile}

-- what is seen of the state, where the event was accepted
abbrev pub seen : {X : Type 0} → (State → X) → Outcome → Option X
seen look (accepted s posted) = Some (look s)
seen look (refused why calls) = None

-- what an accepted event gives out
abbrev pub given_out : {X : Type 0} → (Posted → X) → Outcome → Option X
given_out look (accepted s posted) = Some (look posted)
given_out look (refused why calls) = None

-- the reason of a refusal
abbrev pub why : Outcome → Option Refusal
why (accepted s posted) = None
why (refused reason calls) = Some reason

-- the next event, where the one before was accepted
abbrev pub then_with : List Answer → Outcome → Event → Outcome
then_with answers (accepted s posted) event = step profile s event answers
then_with answers (refused reason calls) event = refused reason calls

-- over no answers of the store
abbrev pub then : Outcome → Event → Outcome
then before event = then_with [] before event

-- What comes of a response, and how a submission ended, as code tells it (XForms 1.1, section 11.2).
use Rattle.std.specs.Prelude.{map, option_map}
use Rattle.xf_name.specs.Bindings.{Bindings}
use Rattle.xf_def_machine.specs.State.{State}
use Rattle.xf_actions.specs.Seen.{end_of, fired_of}
use Rattle.xf_actions.specs.Sent as machine
use Rattle.xf_submit.specs.declared.responding.Outcome.{Outcome}
use Rattle.xf_submit.specs.declared.responding.Outcome.TheVariants as outcome
use Rattle.xf_submit.specs.Errors.{type_text}
use Rattle.xf_engine_state.specs.Moving.{IsPlantable}
use Rattle.xf_engine_world.specs.declared.submitting.Sent.{Sent}

-- a tree that came may come in the data
abbrev pub HasPlantable : Bindings → Outcome → Type 0
HasPlantable b (outcome.Tree lit) = IsPlantable b lit
HasPlantable b (outcome.Fails error) = Unit {0}
HasPlantable b outcome.Ends = Unit {0}
HasPlantable b (outcome.Notes size) = Unit {0}
HasPlantable b (outcome.Text word) = Unit {0}

-- how it ended, in the state that it left
abbrev pub sent_of : State → Sent → machine.Sent
sent_of s w = record { events = map fired_of w.events; end = end_of (option_map type_text w.failure); state = s }

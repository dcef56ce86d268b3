-- The state of the machine that a world stands for: that of what the engine works on, with the notes of the event, and the calls of the store in it.
use Rattle.xf_def_machine.specs.State.{State}
use Rattle.xf_engine_state.specs.Does.{Stage}
use Rattle.xf_engine_state.specs.Standing as standing
use Rattle.xf_engine_world.specs.declared.form_world.FormWorld.{FormWorld}

abbrev pub state_of : FormWorld → State
state_of w = record (standing.state_of w.work.now) {
  notes = w.notes;
  calls = w.calls;
}

-- what stood at the end of the last event
abbrev pub kept_of : FormWorld → Stage
kept_of w = w.work.kept

-- the state of the machine then, between events
abbrev pub kept_state : FormWorld → State
kept_state w = standing.state_of w.work.kept.standing

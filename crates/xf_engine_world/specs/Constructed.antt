-- The construction of a form, step by step, and what it gives. Only want of memory is free.
use Rattle.std.specs.Prelude.{Bool, true, false, ◌≡◌, length, Result, Ok, Err}
use Rattle.xf_def_machine.specs.Profile.{Profile}
use Rattle.xf_def_machine.specs.State.{State}
use Rattle.xf_def_machine.specs.Refusal.{Refused}
use Rattle.xf_def_machine.specs.Flow.{Run, ◌>>=◌, in_turn}
use Rattle.xf_def_machine.specs.Cycles.{counted_from}
use Rattle.xf_def_machine.specs.declared.refusal.Refusal.{Refusal}
use Rattle.xf_def_machine.specs.declared.refusal.Refusal.TheVariants as refusal
use Rattle.xf_def_ui.specs.Cases.{first_cases}
use Rattle.xf_def_machine.specs.Construct.{build_model, first_shown, start_indexes}
use Rattle.xf_def_machine.specs.Surround.{interface}
use Rattle.xf_actions.specs.declared.fault.EventFault.{EventFault}
use Rattle.xf_actions.specs.declared.fault.EventFault.TheVariants as event
use Rattle.xf_engine_state.specs.declared.fault.WorkFault.{WorkFault}
use Rattle.xf_engine_state.specs.declared.fault.WorkFault.TheVariants as fault
use Rattle.xf_engine_state.specs.Standing as work
use Rattle.xf_engine_state.specs.Does.{Twin, IsRefused}
use Rattle.xf_engine_world.specs.declared.form_world.FormWorld.{FormWorld}
use Rattle.xf_engine_world.specs.State.{state_of}

-- the models one after the other
abbrev pub all_built : Profile → Run
all_built p s = in_turn (build_model p) (counted_from 0 (length s.models)) s

-- each switch has its first case, and the indexes start
abbrev pub rows_started : Profile → Run
rows_started p s = start_indexes p (record s { cases = first_cases (interface s) })

-- then the controls are shown
abbrev pub built_and_shown : Profile → Run
built_and_shown p s = all_built p s >>= λ t. rows_started p t >>= first_shown p

-- ---- what it gives

-- binds set a property twice, or a calculate where elements stand, or make a cycle; or a limit is passed
abbrev pub is_of_form : Refusal → Bool
is_of_form (refusal.PropertyTwice path) = true
is_of_form (refusal.CalculateOnParent path) = true
is_of_form (refusal.Circular paths) = true
is_of_form (refusal.Limit word) = true
is_of_form other = false

abbrev pub Builds : Result Twin WorkFault → Result State Refused → Type 0
Builds (Ok w) given = given ≡ Ok (work.state_of w.now)
Builds (Err (fault.Refused refusal)) given = IsRefused refusal given × (is_of_form refusal ≡ true)
Builds (Err fault.Memory) given = Unit {0}

-- the same of a world
abbrev pub IsConstructed : Result FormWorld EventFault → Result State Refused → Type 0
IsConstructed (Ok w) given = given ≡ Ok (state_of w)
IsConstructed (Err (event.Refused refusal)) given = IsRefused refusal given × (is_of_form refusal ≡ true)
IsConstructed (Err event.Memory) given = Unit {0}

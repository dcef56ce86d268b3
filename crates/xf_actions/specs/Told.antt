-- What is done before events are told, apart from telling them: each change of the machine that tells events is one that gives these events,
-- and then tells them one after the other.
use Rattle.std.specs.Prelude.{ℕ, Bool, true, false, List, [], ◌∷◌, map, length, Option, Some, None, Result, Ok, Err}
use Rattle.xf_def_ui.specs.Notifications.{notifications}
use Rattle.xf_actions.specs.declared.world.Flag.{Flag}
use Rattle.xf_actions.specs.declared.world.Flag.TheVariants.{Rebuild, Recalculate, Revalidate, Refresh}
use Rattle.xf_def_machine.specs.Profile.{Profile}
use Rattle.xf_def_machine.specs.State.{Flags, State}
use Rattle.xf_def_machine.specs.Refusal.{Refused}
use Rattle.xf_def_machine.specs.Flow.{Run, ◌>>=◌, in_turn}
use Rattle.xf_def_machine.specs.Primitives.{spend}
use Rattle.xf_def_machine.specs.Cycles.{counted_from}
use Rattle.xf_def_machine.specs.Update.{reindex, shown, due_revalidation, is_refresh_due, all_cleared, refresh_cleared}
use Rattle.xf_def_machine.specs.Events.{Fired, Tell, told_by}

-- a change with the events that are told after it
abbrev pub Telling : Type 0
Telling = State → Result (List Fired × State) Refused

-- the events are told one after the other
abbrev pub told : Tell → List Fired × State → Result State Refused
told tell (events, s) = in_turn tell events s

-- nothing is told
abbrev pub quietly : State → List Fired × State
quietly s = ([], s)

-- a change of which nothing is told
abbrev pub untold : Result State Refused → Result (List Fired × State) Refused
untold (Err refusal) = Err refusal
untold (Ok s) = Ok (quietly s)

-- nothing, where there is none
abbrev pub where_told : {X : Type 0} → Option X → (X → Telling) → Telling
where_told None change s = Ok (quietly s)
where_told (Some x) change s = change x s

-- this event is told
abbrev pub tells : Fired → State → List Fired × State
tells e s = (e ∷ [], s)

-- ---- flags

abbrev pub is_set : Flag → Flags → Bool
is_set Rebuild f = f.rebuild
is_set Recalculate f = f.recalculate
is_set Revalidate f = f.revalidate
is_set Refresh f = f.refresh

-- the refresh of one model, or of all, is no longer due
abbrev pub cleared_by : Option ℕ → State → State
cleared_by None s = all_cleared s
cleared_by (Some model) s = refresh_cleared model s

-- ---- a refresh

abbrev pub refreshed : Profile → (State → State) → Telling
refreshed p cleared s =
    reindex p [] s >>= λ t. shown p t >>= λ list. Ok (map told_by (notifications t.controls list), cleared (record t { controls = list }))

abbrev pub refreshed_if : Bool → Profile → Telling
refreshed_if false p s = Ok ([], s)
refreshed_if true p s = refreshed p all_cleared s

-- ---- a round of an update, which spends a turn

abbrev pub all_behaved : Profile → Run
all_behaved p s = in_turn (due_revalidation p) (counted_from 0 (length s.models)) s

abbrev pub round_begun : Profile → Telling
round_begun p s = spend s >>= all_behaved p >>= λ t. refreshed_if (is_refresh_due t) p t

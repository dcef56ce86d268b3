-- Updates (XForms 1.1, sections 4.3 and 4.6): what is due is done in rounds until nothing is. In a round each model in document order rebuilds,
-- recalculates and revalidates what is flagged; then, where a refresh is flagged, the whole form is refreshed once.
use Rattle.std.specs.Prelude.{ℕ, zero, suc, Bool, false, ◌||◌, List, [], ◌∷◌, map, length, nat_lt, Result, Ok, Err}
use Rattle.std.specs.List.{list_any}
use Rattle.xf_def_ui.specs.Copies.{Copy, copies, copy_count}
use Rattle.xf_def_ui.specs.Index.{Index, Stop, brought_up}
use Rattle.xf_def_ui.specs.Notifications.{notifications}
use Rattle.xf_def_machine.specs.declared.limit.LimitWord.TheVariants.{Controls}
use Rattle.xf_def_machine.specs.Profile.{Profile}
use Rattle.xf_def_machine.specs.State.{Flags, Model, State}
use Rattle.xf_def_machine.specs.Refusal.{Refused, limit, budget, word_of_stop, refused, or_long, unless_passed, if_over}
use Rattle.xf_def_machine.specs.Flow.{Run, ◌>>=◌, when, in_turn}
use Rattle.xf_def_machine.specs.Surround.{interface, quiet}
use Rattle.xf_def_machine.specs.Primitives.{spend, with_indexes, in_model}
use Rattle.xf_def_machine.specs.Properties.{marks_in}
use Rattle.xf_def_machine.specs.Cycles.{counted_from}
use Rattle.xf_def_machine.specs.Behave.{model_at, rebuild, recalculate, revalidate}
use Rattle.xf_def_machine.specs.Events.{Tell, told_by}

-- ---- indexes

-- the state with these indexes
abbrev pub with_brought : State → Result (List Index) Stop → Result State Refused
with_brought s (Err stop) = refused (limit (word_of_stop stop ∷ [])) s
with_brought s (Ok indexes) = Ok (with_indexes indexes s)

-- the indexes are brought up to date where these nodes were just inserted
abbrev pub reindex : Profile → List ℕ → Run
reindex p added s = with_brought s (brought_up p.passes (interface s) (quiet p s) added s.indexes)

-- ---- the refresh

-- unless there are more copies and items than may be
abbrev pub within_controls : Profile → List Copy → State → Result (List Copy) Refused
within_controls p list s = unless_passed s (if_over (nat_lt p.controls (copy_count list)) Controls) list

-- the list of the controls made afresh
abbrev pub shown : Profile → State → Result (List Copy) Refused
shown p s = or_long s (copies (interface s) (quiet p s) (marks_in s) s.cases s.indexes) >>= λ list. within_controls p list s

-- flags are cleared; the differences to the list before are all found, and then told one after the other
abbrev pub refresh : Profile → (State → State) → Tell → Run
refresh p cleared tell s =
    reindex p [] s >>= λ t. shown p t >>= λ list.
    in_turn (λ n. tell (told_by n)) (notifications t.controls list) (cleared (record t { controls = list }))

-- no refresh of a model is due
abbrev pub no_refresh : Model → Model
no_refresh m = record m { flags = record m.flags { refresh = false } }

-- of one model, and of all
abbrev pub refresh_cleared : ℕ → State → State
refresh_cleared model s = in_model no_refresh model s

-- of all models
abbrev pub all_cleared : State → State
all_cleared s = record s { models = map no_refresh s.models }

-- ---- the flagged behaviours of a model

-- a behaviour, where its flag is set
abbrev pub if_due : (Flags → Bool) → ℕ → Run → Run
if_due flag model run s = when (flag (model_at s model).flags) run s

-- the rebuild
abbrev pub due_rebuild : Profile → ℕ → Run
due_rebuild p model = if_due (λ f. f.rebuild) model (rebuild p model)

-- and the recalculation
abbrev pub due_recalculation : Profile → ℕ → Run
due_recalculation p model s = due_rebuild p model s >>= if_due (λ f. f.recalculate) model (recalculate p model)

-- and the revalidation
abbrev pub due_revalidation : Profile → ℕ → Run
due_revalidation p model s = due_recalculation p model s >>= if_due (λ f. f.revalidate) model (λ t. Ok (revalidate p model t))

-- ---- rounds

-- one of the four is due
abbrev pub has_flag : Flags → Bool
has_flag f = f.rebuild || f.recalculate || f.revalidate || f.refresh

-- so of one of the models
abbrev pub is_due : State → Bool
is_due s = list_any (λ m. has_flag m.flags) s.models

-- the refresh of one of the models is due
abbrev pub is_refresh_due : State → Bool
is_refresh_due s = list_any (λ m. m.flags.refresh) s.models

-- model by model, then the refresh
abbrev pub round : Profile → Tell → Run
round p tell s = in_turn (due_revalidation p) (counted_from 0 (length s.models)) s >>= λ t. when (is_refresh_due t) (refresh p all_cleared tell) t

-- each round spends a turn, so that no more rounds come than there are turns
abbrev pub rounds : ℕ → Run → Run
rounds zero once s = refused budget s
rounds (suc left) once s = when (is_due s) (λ t. spend t >>= once >>= rounds left once) s

-- notifications are told inside the update
abbrev pub update : Profile → Tell → Run
update p tell s = rounds (suc s.turns) (round p tell) s

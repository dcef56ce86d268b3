-- The actions that choose a row and a case, and those that dispatch an event (XForms 1.1, sections 10.5, 10.6, 10.8 to 10.12). What is named by
-- its id inside repeats is its copy in the indexed rows; where an index is 0 there is none.
use Rattle.std.specs.Prelude.{ℕ, Bool, true, false, List, [], Option, option_map, get_or, codes, Ok, ℤ, pos, negsuc, ◌==◌}
use Rattle.xf_def_syntax.specs.declared.action.DispatchWork.{DispatchWork}
use Rattle.xf_def_xpath.specs.Setting.{Meaning}
use Rattle.xf_def_ui.specs.Interface.{Sort, switch}
use Rattle.xf_def_ui.specs.Elements.{element_at}
use Rattle.xf_def_ui.specs.Index.{indexed_rows}
use Rattle.xf_def_ui.specs.Started.{index_set}
use Rattle.xf_def_ui.specs.Cases.{cases_of, place_of_case}
use Rattle.xf_def_machine.specs.Profile.{Profile}
use Rattle.xf_def_machine.specs.State.{State}
use Rattle.xf_def_machine.specs.Refusal.{or_long}
use Rattle.xf_def_machine.specs.Flow.{Run, ◌>>=◌, where_some}
use Rattle.xf_def_machine.specs.Surround.{interface, quiet}
use Rattle.xf_def_machine.specs.Primitives.{in_model, refresh_due, with_indexes, set_case}
use Rattle.xf_def_machine.specs.Events.{Tell, fired, fired_at, plainly, model_element, submission_element}
use Rattle.xf_def_machine.specs.Acting.{Acting, whole_for}

-- the rows of the copy that an id names
abbrev pub named_copy : State → ℕ → Option (List ℕ)
named_copy s n = indexed_rows (interface s) s.indexes n

-- ---- setindex

-- the whole number, or 0 where it is below
abbrev pub not_below_zero : ℤ → ℕ
not_below_zero (pos k) = k
not_below_zero (negsuc k) = 0

-- the index of a repeat is set, which flags the refresh of this model, be it the index that stands
abbrev pub set_index : Profile → ℕ → ℕ → ℕ → Run
set_index p model r k s =
    or_long s (index_set (interface s) (quiet p s) r k s.indexes) >>= λ indexes. Ok (in_model refresh_due model (with_indexes indexes s))

-- NaN has no effect
abbrev pub act_index : Profile → Acting → ℕ → Meaning → Run
act_index p x k m s =
    let r = get_or (interface s).repeats k 0 in
    where_some (named_copy s r) (λ rows t.
    whole_for p x t x.focus m >>= λ number. where_some (option_map not_below_zero number) (set_index p x.model r) t) s

-- ---- toggle

-- the number of a switch among the switches
abbrev pub switch_number : Sort → ℕ
switch_number (switch k) = k
switch_number sort = 0

-- the case changes, which flags the refresh; then the old case and the new one are told, whatever the handlers of the first do
abbrev pub toggled : Tell → ℕ → ℕ → ℕ → ℕ → List ℕ → Run
toggled tell model k place one rows s =
    let old = get_or (cases_of (interface s) (get_or (interface s).switches k 0)) (get_or s.cases k 0) 0 in
    tell (plainly (codes "xforms-deselect") old rows) (in_model refresh_due model (set_case k place s)) >>= tell (plainly (codes "xforms-select") one rows)

-- a change, unless the case is selected already
abbrev pub unless_same : Bool → Run → Run
unless_same true run s = Ok s
unless_same false run s = run s

-- to a case in the switch that is its parent
abbrev pub toggle_in : Tell → ℕ → ℕ → ℕ → Run
toggle_in tell model one parent s =
    let k = switch_number (element_at (interface s) parent).sort in
    let place = place_of_case (interface s) parent one in
    unless_same (place == get_or s.cases k 0) (λ t. where_some (named_copy t one) (toggled tell model k place one) t) s

-- to the case that is selected it has no effect
abbrev pub toggle : Tell → ℕ → ℕ → Run
toggle tell model one s = where_some (element_at (interface s) one).parent (toggle_in tell model one) s

-- ---- events

-- an event to the copy of the element that is named
abbrev pub act_dispatch : Tell → DispatchWork → Run
act_dispatch tell w s = where_some (named_copy s w.target) (λ rows t. tell (fired w.name w.bubbles w.is_cancelable [] w.target rows) t) s

-- to the submission of this number, where there is one
abbrev pub act_send : Tell → Option ℕ → Run
act_send tell target s = where_some target (λ k t. tell (fired_at t (codes "xforms-submit") [] (submission_element t k)) t) s

-- to the model in scope
abbrev pub act_on_model : Tell → List ℕ → ℕ → Run
act_on_model tell name model s = tell (fired_at s name [] (model_element s model)) s

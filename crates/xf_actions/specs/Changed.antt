-- What the work of an action changes, and the events that it then tells.
use Rattle.std.specs.Prelude.{ℕ, List, [], ◌∷◌, Option, get_or, codes, Ok, ◌==◌, if◌then◌else◌}
use Rattle.xf_def_syntax.specs.declared.action.DispatchWork.{DispatchWork}
use Rattle.xf_def_ui.specs.Elements.{element_at}
use Rattle.xf_def_ui.specs.Cases.{cases_of, place_of_case}
use Rattle.xf_def_machine.specs.Program.{Work}
use Rattle.xf_def_machine.specs.Program as work
use Rattle.xf_def_machine.specs.Profile.{Profile}
use Rattle.xf_def_machine.specs.Surround.{interface}
use Rattle.xf_def_machine.specs.Primitives.{in_model, refresh_due, set_case}
use Rattle.xf_def_machine.specs.Events.{fired, fired_at, plainly, model_element, submission_element}
use Rattle.xf_def_machine.specs.Acting.{Acting}
use Rattle.xf_def_machine.specs.SetValue.{set_value}
use Rattle.xf_def_machine.specs.Choose.{named_copy, act_index, switch_number}
use Rattle.xf_def_machine.specs.Telling.{message, load, focus}
use Rattle.xf_actions.specs.declared.work.Doing.{Doing}
use Rattle.xf_actions.specs.declared.work.Doing.TheVariants.{Sets, Speaks, Inserts, Deletes, Loads, Indexes, Toggles, Focuses, Tells, Rests}
use Rattle.xf_actions.specs.Told.{Telling, quietly, untold, where_told, tells}
use Rattle.xf_actions.specs.TreeChanges.{insert, delete}

-- ---- toggle

abbrev pub toggled : ℕ → ℕ → ℕ → ℕ → List ℕ → Telling
toggled model k place one rows s =
    let old = get_or (cases_of (interface s) (get_or (interface s).switches k 0)) (get_or s.cases k 0) 0 in
    Ok (plainly (codes "xforms-deselect") old rows ∷ plainly (codes "xforms-select") one rows ∷ [], in_model refresh_due model (set_case k place s))

abbrev pub toggle_in : ℕ → ℕ → ℕ → Telling
toggle_in model one parent s =
    let k = switch_number (element_at (interface s) parent).sort in
    let place = place_of_case (interface s) parent one in
    if place == get_or s.cases k 0 then Ok (quietly s) else where_told (named_copy s one) (toggled model k place one) s

abbrev pub toggle : ℕ → ℕ → Telling
toggle model one s = where_told (element_at (interface s) one).parent (toggle_in model one) s

-- ---- events

abbrev pub dispatched : DispatchWork → Telling
dispatched w s = where_told (named_copy s w.target) (λ rows t. Ok (tells (fired w.name w.bubbles w.is_cancelable [] w.target rows) t)) s

abbrev pub sent : Option ℕ → Telling
sent target s = where_told target (λ k t. Ok (tells (fired_at t (codes "xforms-submit") [] (submission_element t k)) t)) s

abbrev pub on_model : List ℕ → ℕ → Telling
on_model name model s = Ok (tells (fired_at s name [] (model_element s model)) s)

-- the works that only tell
abbrev pub only_tells : ℕ → Work → Telling
only_tells model (work.dispatch w) s = dispatched w s
only_tells model (work.send target) s = sent target s
only_tells model (work.on_model name) s = on_model name model s
only_tells model w s = Ok (quietly s)

-- ---- the work of an action, but for the actions in it

abbrev pub changed : Profile → Acting → Work → Telling
changed p x work.all_in_it s = Ok (quietly s)
changed p x (work.set_value value) s = untold (set_value p x value s)
changed p x (work.insert w) s = insert p x w s
changed p x (work.delete w) s = delete p x w s
changed p x (work.set_index k m) s = untold (act_index p x k m s)
changed p x (work.toggle one) s = toggle x.model one s
changed p x (work.set_focus n) s = untold (focus p n s)
changed p x (work.dispatch w) s = dispatched w s
changed p x (work.send target) s = sent target s
changed p x (work.load resource) s = untold (load p x resource s)
changed p x work.message s = untold (message p x s)
changed p x (work.on_model name) s = on_model name x.model s

-- ---- which work it is

abbrev pub doing_of : Work → Doing
doing_of (work.set_value value) = Sets
doing_of work.message = Speaks
doing_of (work.insert w) = Inserts
doing_of (work.delete w) = Deletes
doing_of (work.load resource) = Loads
doing_of (work.set_index k m) = Indexes k
doing_of (work.toggle one) = Toggles one
doing_of (work.set_focus n) = Focuses n
doing_of (work.dispatch w) = Tells
doing_of (work.send target) = Tells
doing_of (work.on_model name) = Tells
doing_of work.all_in_it = Rests

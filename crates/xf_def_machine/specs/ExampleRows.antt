-- A form whose repeat has a row for each `row`, with triggers that insert and delete rows.
use Rattle.std.specs.Prelude.{false, List, [], ◌∷◌, Some, None, codes}
use Rattle.xf_def_ui.specs.Interface as sort
use Rattle.xf_def_machine.specs.Program.{Program}
use Rattle.xf_def_machine.specs.Program as role
use Rattle.xf_def_machine.specs.Examples
use Rattle.xf_def_machine.specs.Examples.{Part, element, bound, named, model, instance, on, to, index_of, element_at}

-- the repeat r, the trigger 4 inserts a copy of the last row behind it, 6 deletes the indexed row
abbrev pub parts : List Part
parts =
    element None (1 ∷ 3 ∷ 4 ∷ 6 ∷ []) sort.host role.other
    ∷ model (2 ∷ [])
    ∷ instance
    ∷ named (codes "r") (bound (to (codes "row")) (element (Some 0) [] (sort.repeated 0 1) role.other))
    ∷ named (codes "add") (element (Some 0) (5 ∷ []) sort.field role.trigger)
    ∷ bound (to (codes "row")) (on (codes "DOMActivate") 4 [] (role.insert (record { context = None; origin = None; at = None; is_before = false })))
    ∷ named (codes "del") (element (Some 0) (7 ∷ []) sort.field role.trigger)
    ∷ bound (to (codes "row")) (on (codes "DOMActivate") 6 [] (role.delete (record { context = None; at = Some (index_of (codes "r")) })))
    ∷ []

-- ["d",["row"],["row"]]
abbrev pub rows : Program
rows = Examples.form parts [] (3 ∷ []) [] (element_at 0 (codes "d") ∷ element_at 1 (codes "row") ∷ element_at 1 (codes "row") ∷ [])

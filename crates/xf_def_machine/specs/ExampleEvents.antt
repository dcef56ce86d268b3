-- Forms whose handlers add notes, to see which are called.
use Rattle.std.specs.Prelude.{ℕ, false, List, [], ◌∷◌, Some, None, codes}
use Rattle.xf_def_syntax.specs.declared.action.Handler.{Handler}
use Rattle.xf_def_xpath.specs.Examples.{call, number, two, path, child, up}
use Rattle.xf_def_xpath.specs.Setting.{Meaning}
use Rattle.xf_def_syntax.specs.declared.expr.Operator.TheVariants as operator
use Rattle.xf_def_ui.specs.Interface as sort
use Rattle.xf_def_machine.specs.Program.{Program, Work}
use Rattle.xf_def_machine.specs.Program as role
use Rattle.xf_def_machine.specs.Examples
use Rattle.xf_def_machine.specs.Examples.{Part, element, bound, named, saying, model, instance, on, inner, with_handler, capturing, to, itself, element_at, text_at}

-- ["d",["a","1"],["b","2"]]
abbrev pub pair : Examples.Tree
pair =
    element_at 0 (codes "d") ∷ element_at 1 (codes "a") ∷ text_at 2 (codes "1") ∷ element_at 1 (codes "b") ∷ text_at 2 (codes "2") ∷ []

-- `../NAME`
abbrev pub beside : List ℕ → Meaning
beside name = (path (up false ∷ child name ∷ [])).meaning

-- the way of an event: two capture handlers of the root, the first changed so, a handler of the trigger x and one of the root
abbrev pub way : (Handler → Handler) → Program
way first = Examples.form
    (element None (1 ∷ 3 ∷ 4 ∷ 5 ∷ 7 ∷ []) sort.host role.other
    ∷ named (codes "m") (model (2 ∷ []))
    ∷ instance
    ∷ saying (codes "one") (with_handler (λ h. first (capturing h)) (on (codes "DOMActivate") 0 [] role.message))
    ∷ saying (codes "two") (with_handler capturing (on (codes "DOMActivate") 0 [] role.message))
    ∷ named (codes "x") (element (Some 0) (6 ∷ []) sort.field role.trigger)
    ∷ saying (codes "three") (on (codes "DOMActivate") 5 [] role.message)
    ∷ saying (codes "four") (on (codes "DOMActivate") 0 [] role.message)
    ∷ []) [] [] [] pair

-- a default action: a handler of the model for a reset, changed so
abbrev pub resetting : (Handler → Handler) → Program
resetting more = Examples.form
    (element None (1 ∷ []) sort.host role.other
    ∷ named (codes "m") (model (2 ∷ 3 ∷ []))
    ∷ instance
    ∷ saying (codes "reset") (with_handler more (on (codes "xforms-reset") 1 [] role.message))
    ∷ []) [] [] [] pair

-- updates: the input i on a, whose change sets b; the output on b, whose change adds a note
abbrev pub changing : Program
changing = Examples.form
    (element None (1 ∷ 3 ∷ 5 ∷ []) sort.host role.other
    ∷ model (2 ∷ [])
    ∷ instance
    ∷ named (codes "i") (bound (to (codes "a")) (element (Some 0) (4 ∷ []) sort.field role.entry))
    ∷ saying (codes "9") (bound (beside (codes "b")) (on (codes "xforms-value-changed") 3 [] (role.set_value None)))
    ∷ bound (to (codes "b")) (element (Some 0) (6 ∷ []) (sort.output None) role.other)
    ∷ saying (codes "b") (on (codes "xforms-value-changed") 5 [] role.message)
    ∷ []) [] [] [] pair

-- one trigger x, with an action that holds these two, it and the first changed so
abbrev pub twice : (Part → Part) → (Part → Part) → Work → Work → Program
twice outer first one other = Examples.form
    (element None (1 ∷ 3 ∷ 7 ∷ []) sort.host role.other
    ∷ named (codes "m") (model (2 ∷ []))
    ∷ instance
    ∷ named (codes "x") (element (Some 0) (4 ∷ []) sort.field role.trigger)
    ∷ outer (on (codes "DOMActivate") 3 (5 ∷ 6 ∷ []) role.all_in_it)
    ∷ first (inner 4 one)
    ∷ saying (codes "end") (inner 4 other)
    ∷ bound (to (codes "a")) (element (Some 0) [] (sort.repeated 0 1) role.other)
    ∷ []) [] (7 ∷ []) [] pair

-- no change of a part
abbrev pub as_it_is : Part → Part
as_it_is x = x

-- `count(a) < N`
abbrev pub fewer_than : ℕ → Meaning
fewer_than n = (two (call 8 (path (child (codes "a") ∷ []) ∷ [])) operator.Less (number n)).meaning

-- `true()`
abbrev pub yes : Meaning
yes = (call 44 []).meaning

-- `false()`
abbrev pub no : Meaning
no = (call 14 []).meaning

-- an insert that says nothing more than its node set
abbrev pub insert_a : Work
insert_a = role.insert (record { context = None; origin = None; at = None; is_before = false })

-- Forms of ["d",["a","1"],["b"]] with binds, and an input on a.
use Rattle.std.specs.Prelude.{ℕ, false, List, [], ◌∷◌, Some, None, codes}
use Rattle.xf_def_xpath.specs.Examples.{path, child, here}
use Rattle.xf_def_model.specs.Rules.{Rule}
use Rattle.xf_def_model.specs.Examples as bind
use Rattle.xf_def_ui.specs.Interface as sort
use Rattle.xf_def_machine.specs.Program.{Program}
use Rattle.xf_def_machine.specs.Program as role
use Rattle.xf_def_machine.specs.Examples
use Rattle.xf_def_machine.specs.Examples.{element, bound, named, model, instance, to, element_at, text_at}

-- a form with these binds
abbrev pub binding : List Rule → Program
binding rules = Examples.form
    (element None (1 ∷ 3 ∷ []) sort.host role.other
    ∷ model (2 ∷ [])
    ∷ instance
    ∷ named (codes "i") (bound (to (codes "a")) (element (Some 0) [] sort.field role.entry))
    ∷ []) rules [] [] (element_at 0 (codes "d") ∷ element_at 1 (codes "a") ∷ text_at 2 (codes "1") ∷ element_at 1 (codes "b") ∷ [])

-- a bind of the children of this name
abbrev pub of_node : List ℕ → Rule
of_node name = bind.bind (path (child name ∷ []))

-- b takes the text of a; then both take that of the other; and a calculate of the document element
abbrev pub b_by_a : Rule
b_by_a = bind.calculate (bind.beside (codes "a")) (of_node (codes "b"))

-- a takes the text of b
abbrev pub a_by_b : Rule
a_by_b = bind.calculate (bind.beside (codes "b")) (of_node (codes "a"))

-- a calculate of the document element
abbrev pub of_whole : Rule
of_whole = bind.calculate bind.yes (bind.bind (path (here false ∷ [])))

-- Small forms and data, to read beside the definitions.
use Rattle.std.specs.Prelude.{ℕ, zero, true, false, List, [], ◌∷◌, map, Option, Some, None, codes}
use Rattle.xf_base.specs.Limits.{string_limit}
use Rattle.xf_name.specs.Bindings.{no_bindings}
use Rattle.xf_def_syntax.specs.declared.action.Handler.{Handler}
use Rattle.xf_def_syntax.specs.declared.action.Phase.{Phase}
use Rattle.xf_def_syntax.specs.declared.element.Part.{Part}
use Rattle.xf_def_syntax.specs.declared.element.Part.TheVariants as part
use Rattle.xf_def_forest.specs.declared.content.Node.{Node}
use Rattle.xf_def_forest.specs.declared.content.Content.TheVariants.{Root}
use Rattle.xf_def_forest.specs.Visit.{visits}
use Rattle.xf_def_forest.specs.Examples.{node, element, text}
use Rattle.xf_def_xpath.specs.Asked.{Trace}
use Rattle.xf_def_xpath.specs.Examples.{functions, child, here, up, path}
use Rattle.xf_def_ui.specs.Interface.{Bound, unbound, nodes, by_bind, Sort, Element, Interface}
use Rattle.xf_def_ui.specs.Interface as sort
use Rattle.xf_def_ui.specs.Around.{Around}
use Rattle.xf_def_ui.specs.declared.marks.Marks.{Marks}

-- in this element, with these in it
abbrev pub inside : ℕ → List ℕ → Sort → Element
inside parent ns kind = record { id = []; parent = Some parent; parts = map part.Element ns; model = None; binding = unbound; sort = kind }

-- the root of the form, a host element
abbrev pub top : List ℕ → Element
top ns = record { id = []; parent = None; parts = map part.Element ns; model = None; binding = unbound; sort = sort.host }

-- with an expression as its binding
abbrev pub by : Trace → Element → Element
by t e = record e { binding = nodes t.meaning }

-- with a bind as its binding
abbrev pub by_number : ℕ → Element → Element
by_number k e = record e { binding = by_bind k }

-- with an id
abbrev pub named : List ℕ → Element → Element
named id e = record e { id = id }

-- with a model that it names
abbrev pub of_model : ℕ → Element → Element
of_model k e = record e { model = Some k }

-- with this content
abbrev pub saying : List Part → Element → Element
saying parts e = record e { parts = parts }

-- a text in the content
abbrev pub words : List ℕ → Part
words cs = part.Text cs

-- with these repeats and switches; two binds, one of each of two models
abbrev pub interface : List Element → List ℕ → List ℕ → Interface
interface elements repeats switches = record { elements = elements; repeats = repeats; switches = switches; bind_models = 0 ∷ 1 ∷ [] }

-- the children of this name
abbrev pub to : List ℕ → Trace
to name = path (child name ∷ [])

-- the context node
abbrev pub itself : Trace
itself = path (here false ∷ [])

-- the siblings of this name
abbrev pub beside : List ℕ → Trace
beside name = path (up false ∷ child name ∷ [])

-- ["d",["s",["i","1"],["i","2"]],["s",["i","3"]],["e","x"]], and the first instance of a second model, ["m",["e","9"]]
abbrev pub two_lists : List Node
two_lists =
    node 0 0 Root ∷ element 1 1 (codes "d")
    ∷ element 2 2 (codes "s") ∷ element 3 3 (codes "i") ∷ text 4 4 (codes "1") ∷ element 5 3 (codes "i") ∷ text 6 4 (codes "2")
    ∷ element 7 2 (codes "s") ∷ element 8 3 (codes "i") ∷ text 9 4 (codes "3")
    ∷ element 10 2 (codes "e") ∷ text 11 3 (codes "x")
    ∷ node 12 0 Root ∷ element 13 1 (codes "m") ∷ element 14 2 (codes "e") ∷ text 15 3 (codes "9") ∷ []

-- the same after a delete of the second s
abbrev pub first_list : List Node
first_list =
    node 0 0 Root ∷ element 1 1 (codes "d")
    ∷ element 2 2 (codes "s") ∷ element 3 3 (codes "i") ∷ text 4 4 (codes "1") ∷ element 5 3 (codes "i") ∷ text 6 4 (codes "2")
    ∷ element 10 2 (codes "e") ∷ text 11 3 (codes "x") ∷ []

-- the same after a delete of the first s
abbrev pub second_list : List Node
second_list =
    node 0 0 Root ∷ element 1 1 (codes "d") ∷ element 7 2 (codes "s") ∷ element 8 3 (codes "i") ∷ text 9 4 (codes "3")
    ∷ element 10 2 (codes "e") ∷ text 11 3 (codes "x") ∷ []

-- and after all are gone
abbrev pub no_list : List Node
no_list = node 0 0 Root ∷ element 1 1 (codes "d") ∷ element 10 2 (codes "e") ∷ text 11 3 (codes "x") ∷ []

-- ["d",["b","1"],"t"]
abbrev pub beside_text : List Node
beside_text = node 0 0 Root ∷ element 1 1 (codes "d") ∷ element 2 2 (codes "b") ∷ text 3 3 (codes "1") ∷ text 4 2 (codes "t") ∷ []

-- the first bind selects both s, the second one, of the second model, its e
abbrev pub bound : ℕ → Option (List ℕ)
bound zero = Some (2 ∷ 7 ∷ [])
bound k = Some (14 ∷ [])

-- what surrounds expressions over these data, of two models
abbrev pub around : List Node → Around
around all = record {
  functions = functions;
  most = Some string_limit;
  given = record {
    documents = record { model = 0; id = []; element = 1 } ∷ record { model = 1; id = []; element = 13 } ∷ [];
    indexes = [];
    event = None;
    bindings = no_bindings;
    decimals = 6;
  };
  all = visits all;
  bound = bound;
}

-- a form: the repeat r over s holds a trigger and the repeat q over i, in which an input stands on the row; then an input on e
abbrev pub lists : Interface
lists = interface
    (top (1 ∷ 5 ∷ [])
    ∷ named (codes "r") (by (to (codes "s")) (inside 0 (2 ∷ 3 ∷ []) (sort.repeated 0 1)))
    ∷ inside 1 [] sort.field
    ∷ named (codes "q") (by (to (codes "i")) (inside 1 (4 ∷ []) (sort.repeated 1 1)))
    ∷ by itself (inside 3 [] sort.field)
    ∷ by (to (codes "e")) (inside 0 [] sort.field)
    ∷ [])
    (1 ∷ 3 ∷ []) []

-- the properties of a node of which no bind says anything
abbrev pub as_usual : ℕ → Marks
as_usual n = record { relevant = true; readonly = false; required = false; valid = true }

-- a handler of an event at an observer
abbrev pub handler : List ℕ → ℕ → Phase → Handler
handler event observer phase = record { event = event; observer = Some observer; target = None; phase = phase; stops = false; cancels = false }

-- one that stops the event
abbrev pub stopping : Handler → Handler
stopping h = record h { stops = true }

-- one that cancels the default action
abbrev pub cancelling : Handler → Handler
cancelling h = record h { cancels = true }

-- one that is called for events at this element alone
abbrev pub only_at : ℕ → Handler → Handler
only_at n h = record h { target = Some n }

-- Small data with binds over them, to read beside the definitions.
use Rattle.std.specs.Prelude.{ℕ, Bool, true, false, List, [], ◌∷◌, map, Some, None, codes}
use Rattle.xf_name.specs.Bindings.{no_bindings}
use Rattle.xf_name.specs.declared.axis.Axis.TheVariants as axis
use Rattle.xf_def_syntax.specs.declared.expr.Operator.TheVariants as operator
use Rattle.xf_types.specs.declared.kind.BuiltIn.TheVariants as built_in
use Rattle.xf_types.specs.declared.kind.SimpleType.{SimpleType}
use Rattle.xf_schema.specs.declared.written.NamedType.{NamedType}
use Rattle.xf_schema.specs.declared.written.NamedType.TheVariants.{BuiltIn}
use Rattle.xf_def_forest.specs.declared.content.Node.{Node}
use Rattle.xf_def_forest.specs.declared.content.Content.TheVariants.{Root}
use Rattle.xf_def_forest.specs.Examples.{node, element, attribute, text}
use Rattle.xf_def_xpath.specs.Given.{Given}
use Rattle.xf_def_xpath.specs.Asked.{Trace, WalkTrace}
use Rattle.xf_def_xpath.specs.Examples.{functions, simple, step, child, up, path, number, call, two}
use Rattle.xf_def_model.specs.Rules.{Computed, Rule, Scope}
use Rattle.xf_def_model.specs.Applied.{Entry}

-- ---- binds

-- an expression without `position()` and `last()`, and one that calls them
abbrev pub plainly : Trace → Computed
plainly t = record { trace = t; is_placed = false }

abbrev pub placed : Trace → Computed
placed t = record { trace = t; is_placed = true }

-- a bind of the first model that sets nothing yet
abbrev pub bind : Trace → Rule
bind node_set = record {
  model = 0;
  around = None;
  node_set = node_set;
  kind = None;
  calculate = None;
  relevant = None;
  readonly = None;
  required = None;
  constraint = None;
}

abbrev pub inside : ℕ → Rule → Rule
inside around r = record r { around = Some around }

abbrev pub calculate : Trace → Rule → Rule
calculate t r = record r { calculate = Some (plainly t) }

abbrev pub relevant : Trace → Rule → Rule
relevant t r = record r { relevant = Some (plainly t) }

abbrev pub readonly : Trace → Rule → Rule
readonly t r = record r { readonly = Some (plainly t) }

abbrev pub required : Trace → Rule → Rule
required t r = record r { required = Some (plainly t) }

abbrev pub constraint : Trace → Rule → Rule
constraint t r = record r { constraint = Some (plainly t) }

abbrev pub simple_type : Bool → SimpleType
simple_type may_be_empty = record { kind = built_in.Integer; may_be_empty = may_be_empty }

abbrev pub integer : Bool → NamedType
integer may_be_empty = BuiltIn (simple_type may_be_empty)

abbrev pub typed : NamedType → Rule → Rule
typed kind r = record r { kind = Some kind }

-- the first instance of the first model, whose document element is node 1, with these binds
abbrev pub given : Given
given = record {
  documents = record { model = 0; id = []; element = 1 } ∷ [];
  indexes = [];
  event = None;
  bindings = no_bindings;
  decimals = 6;
}

abbrev pub scope : List Rule → Scope
scope rules = record { functions = functions; given = given; model = 0; rules = rules }

-- two models, of which the second has the document element 4
abbrev pub both_given : Given
both_given = record given { documents = record { model = 0; id = []; element = 1 } ∷ record { model = 1; id = []; element = 4 } ∷ [] }

-- over the first
abbrev pub both_models : List Rule → Scope
both_models rules = record { functions = functions; given = both_given; model = 0; rules = rules }

-- ---- expressions

abbrev pub yes : Trace
yes = call 44 []

abbrev pub no : Trace
no = call 14 []

-- `a`, `../a`
abbrev pub to : List ℕ → Trace
to name = path (child name ∷ [])

abbrev pub beside : List ℕ → Trace
beside name = path (up false ∷ child name ∷ [])

abbrev pub at : List ℕ → WalkTrace
at name = step axis.Attribute (simple name) []

-- count(../preceding-sibling::row) + 1
abbrev pub rows_before : Trace
rows_before = two (call 8 (path (up false ∷ step axis.PrecedingSibling (simple (codes "row")) [] ∷ []) ∷ [])) operator.Add (number 1)

-- ---- data

-- ["d",["a","1"],["b"],["c"],["e"]]
abbrev pub four : List Node
four =
    node 0 0 Root ∷ element 1 1 (codes "d") ∷ element 2 2 (codes "a") ∷ text 3 3 (codes "1")
    ∷ element 4 2 (codes "b") ∷ element 5 2 (codes "c") ∷ element 6 2 (codes "e") ∷ []

-- ["d",["row",{"no":""}],["row",{"no":""}]]
abbrev pub numbered : List Node
numbered =
    node 0 0 Root ∷ element 1 1 (codes "d")
    ∷ element 2 2 (codes "row") ∷ attribute 3 3 (codes "no") []
    ∷ element 4 2 (codes "row") ∷ attribute 5 3 (codes "no") [] ∷ []

-- ["d",["i",["s"],["s"]],["i",["s"]],["t"]]
abbrev pub invoices : List Node
invoices =
    node 0 0 Root ∷ element 1 1 (codes "d")
    ∷ element 2 2 (codes "i") ∷ element 3 3 (codes "s") ∷ element 4 3 (codes "s")
    ∷ element 5 2 (codes "i") ∷ element 6 3 (codes "s")
    ∷ element 7 2 (codes "t") ∷ []

-- ["d",["g",["x","1"]],["h",{"k":"2"},"3"]]
abbrev pub groups : List Node
groups =
    node 0 0 Root ∷ element 1 1 (codes "d")
    ∷ element 2 2 (codes "g") ∷ element 3 3 (codes "x") ∷ text 4 4 (codes "1")
    ∷ element 5 2 (codes "h") ∷ attribute 6 3 (codes "k") (codes "2") ∷ text 7 3 (codes "3") ∷ []

-- ["d",["a"],["b",["x"]]]
abbrev pub nest : List Node
nest = node 0 0 Root ∷ element 1 1 (codes "d") ∷ element 2 2 (codes "a") ∷ element 3 2 (codes "b") ∷ element 4 3 (codes "x") ∷ []

-- ["d",["a"]], and ["e",["a","1"]] of another model
abbrev pub apart : List Node
apart =
    node 0 0 Root ∷ element 1 1 (codes "d") ∷ element 2 2 (codes "a")
    ∷ node 3 0 Root ∷ element 4 1 (codes "e") ∷ element 5 2 (codes "a") ∷ text 6 3 (codes "1") ∷ []

-- ["d",["b","1"],"t"]
abbrev pub mixed : List Node
mixed =
    node 0 0 Root ∷ element 1 1 (codes "d") ∷ element 2 2 (codes "b") ∷ text 3 3 (codes "1") ∷ text 4 2 (codes "t") ∷ []

-- ---- what is read of entries

-- node, position and size
abbrev pub standing : Entry → ℕ × ℕ × ℕ
standing e = (e.node, e.position, e.size)

abbrev pub standings : List Entry → List (ℕ × ℕ × ℕ)
standings entries = map standing entries

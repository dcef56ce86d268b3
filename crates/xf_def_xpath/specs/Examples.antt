-- A small forest, what surrounds it, and expressions over it, one level at a time, to read beside the definitions.
use Rattle.std.specs.Prelude.{ℕ, ◌*◌, Bool, true, false, List, [], ◌∷◌, pos, Option, Some, option_map, codes, ◌==◌, if◌then◌else◌}
use Rattle.std.specs.List.{flat_map}
use Rattle.xf_base.specs.Limits.{string_limit}
use Rattle.xf_name.specs.Bindings.{no_bindings}
use Rattle.xf_name.specs.declared.axis.Axis.{Axis}
use Rattle.xf_name.specs.declared.axis.Axis.TheVariants as axis
use Rattle.xf_def_syntax.specs.declared.expr.Test.{Test}
use Rattle.xf_def_syntax.specs.declared.expr.Test.TheVariants as test
use Rattle.xf_def_syntax.specs.declared.expr.Operator.{Operator}
use Rattle.xf_def_syntax.specs.declared.expr.Start.TheVariants as start
use Rattle.xf_def_syntax.specs.declared.expr.Expr.TheOpen.{Expr-F}
use Rattle.xf_def_forest.specs.declared.content.Node.{Node}
use Rattle.xf_def_forest.specs.declared.content.Content.TheVariants.{Root}
use Rattle.xf_def_forest.specs.Visit.{visits}
use Rattle.xf_def_forest.specs.Examples.{node, element, attribute, text, qname}
use Rattle.xf_def_xpath.specs.declared.value.Value.{Value}
use Rattle.xf_def_xpath.specs.declared.value.Value.TheVariants.{Nodes, Text}
use Rattle.xf_def_xpath.specs.Given.{Given}
use Rattle.xf_def_values.specs.declared.plain.Plain.{Plain}
use Rattle.xf_def_values.specs.Conversions.{text_in}
use Rattle.xf_def_values.specs.Functions.{Functions}
use Rattle.xf_def_values.specs.declared.plain.Plain.TheVariants as plain
use Rattle.xf_def_xpath.specs.Setting.{Focus, setting_over, capped}
use Rattle.xf_def_xpath.specs.Asked.{Trace, WalkTrace}
use Rattle.xf_def_xpath.specs.Reads.{expr_trace, step_trace, reads_in, looks_in, shape_setting}

-- ---- the data

-- ["d",["b",{"k":"7"},["a","1"],["a","2"],["a","4"]],["b",["a","3"]],["c"]], and the instance z, ["e",["x","5"]]
abbrev pub nodes : List Node
nodes =
    node 0 0 Root
    ∷ element 1 1 (codes "d")
    ∷ element 2 2 (codes "b")
    ∷ attribute 3 3 (codes "k") (codes "7")
    ∷ element 4 3 (codes "a")
    ∷ text 5 4 (codes "1")
    ∷ element 6 3 (codes "a")
    ∷ text 7 4 (codes "2")
    ∷ element 8 3 (codes "a")
    ∷ text 9 4 (codes "4")
    ∷ element 10 2 (codes "b")
    ∷ element 11 3 (codes "a")
    ∷ text 12 4 (codes "3")
    ∷ element 13 2 (codes "c")
    ∷ node 14 0 Root
    ∷ element 15 1 (codes "e")
    ∷ element 16 2 (codes "x")
    ∷ text 17 3 (codes "5")
    ∷ []

-- an insert is handled, and the second row of the repeat r is indexed
abbrev pub given : Given
given = record {
  documents = record { model = 0; id = []; element = 1 } ∷ record { model = 0; id = codes "z"; element = 15 } ∷ [];
  indexes = (codes "r", 2) ∷ [];
  event = Some ((codes "position", Text (codes "after")) ∷ (codes "inserted-nodes", Nodes (6 ∷ 8 ∷ [])) ∷ []);
  bindings = no_bindings;
  decimals = 6;
}

-- `concat` alone
abbrev pub functions : Functions
functions most d code arguments = if code == 6 then option_map plain.Text (capped most (flat_map (text_in d) arguments)) else Some (plain.Text [])

-- ---- expressions

abbrev pub simple : List ℕ → Test
simple local = test.Name (qname 0 0 local)

-- a step, written out
abbrev pub step : Axis → Test → List Trace → WalkTrace
step axis test predicates = step_trace (record { place = 0; is_below = false; is_written = true; axis = axis; test = test; predicates = predicates })

-- a step after `//`
abbrev pub below : Axis → Test → List Trace → WalkTrace
below axis test predicates = step_trace (record { place = 0; is_below = true; is_written = true; axis = axis; test = test; predicates = predicates })

abbrev pub child : List ℕ → WalkTrace
child local = step axis.Child (simple local) []

-- `..` and `.`, and both after `//`
abbrev pub up : Bool → WalkTrace
up is_below = step_trace (record { place = 0; is_below = is_below; is_written = false; axis = axis.Parent; test = test.Node; predicates = [] })

abbrev pub here : Bool → WalkTrace
here is_below = step_trace (record { place = 0; is_below = is_below; is_written = false; axis = axis.Self_; test = test.Node; predicates = [] })

abbrev pub path : List WalkTrace → Trace
path walks = expr_trace (Expr-F.Path 0 start.Context walks)

abbrev pub from_root : List WalkTrace → Trace
from_root walks = expr_trace (Expr-F.Path 0 start.Root walks)

abbrev pub from : Trace → List WalkTrace → Trace
from first walks = expr_trace (Expr-F.From first walks)

abbrev pub filter_by : Trace → List Trace → Trace
filter_by first predicates = expr_trace (Expr-F.Filter first predicates)

abbrev pub units : ℕ → Trace
units k = expr_trace (Expr-F.Number 0 (Some (pos k)))

abbrev pub number : ℕ → Trace
number n = units (n * 1000000)

abbrev pub literal : List ℕ → Trace
literal cs = expr_trace (Expr-F.Literal 0 cs)

abbrev pub call : ℕ → List Trace → Trace
call code arguments = expr_trace (Expr-F.Call 0 code arguments)

abbrev pub minus : ℕ → Trace → Trace
minus signs operand = expr_trace (Expr-F.Negated 0 signs operand)

abbrev pub two : Trace → Operator → Trace → Trace
two left operator right = expr_trace (Expr-F.Chain left (record { operator = operator; right = right } ∷ []))

abbrev pub three : Trace → Operator → Trace → Operator → Trace → Trace
three left first middle second right =
    expr_trace (Expr-F.Chain left (record { operator = first; right = middle } ∷ record { operator = second; right = right } ∷ []))

-- ---- their values, and what they ask

abbrev pub focus : ℕ → Focus
focus n = record { node = n; position = 1; size = 1 }

-- with strings of at most so many bytes
abbrev pub worth_within : ℕ → ℕ → Trace → Option Value
worth_within most n t = t.meaning (setting_over functions (Some most) given (visits nodes) 0 n) (focus n)

abbrev pub worth : ℕ → Trace → Option Value
worth n t = worth_within string_limit n t

abbrev pub reads : ℕ → Trace → List ℕ
reads n t = reads_in t (shape_setting functions given nodes 0 n) (focus n)

abbrev pub looks : ℕ → Trace → List ℕ
looks n t = looks_in t (shape_setting functions given nodes 0 n) (focus n)

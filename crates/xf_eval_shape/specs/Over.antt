-- What an expression means over the shape of a forest, with the functions of a form: what the node set of a bind
-- selects (XForms 1.1, sections 3.3.4 and 7.2), and the lists that it looks at.
use Rattle.std.specs.Prelude.{ℕ, List, Option, option_map}
use Rattle.xf_def_syntax.specs.declared.expr.Expr.{Expr}
use Rattle.xf_def_forest.specs.declared.content.Node.{Node}
use Rattle.xf_def_forest.specs.Shape.{shape_of}
use Rattle.xf_funcs.specs.Called.{called}
use Rattle.xf_def_xpath.specs.declared.context.Context.{Context}
use Rattle.xf_def_xpath.specs.Binding.{bound_nodes}
use Rattle.xf_def_xpath.specs.Conversions.{nodes_of}
use Rattle.xf_def_xpath.specs.Given.{Given}
use Rattle.xf_def_xpath.specs.Meaning.{focus_of, meaning}
use Rattle.xf_def_xpath.specs.Reads.{set_looks_in, shape_setting, trace}
use Rattle.xf_def_xpath.specs.Setting.{Setting}
use Rattle.xf_def_values.specs.Functions.{Functions}

abbrev pub shape_at : Given → List Node → Context → Setting
shape_at given nodes context = shape_setting called given nodes context.model context.current.number

-- the nodes of the value of an expression
abbrev pub nodes_at : Given → List Node → Expr → Context → Option (List ℕ)
nodes_at given nodes expr context = option_map nodes_of (meaning expr (shape_at given nodes context) (focus_of context))

-- the nodes that a bind selects from the context node: a text stands for its parent, and a root for its children
abbrev pub set_over : Given → List Node → Expr → Context → Option (List ℕ)
set_over given nodes expr context =
    option_map (λ v. bound_nodes (shape_of nodes) (nodes_of v)) (meaning expr (shape_setting called given nodes context.model context.current.number) (focus_of context))

-- the lists that its node set looks at
abbrev pub set_looks_of : Functions → Given → List Node → Expr → Context → List ℕ
set_looks_of functions given nodes expr context =
    set_looks_in (trace expr) (shape_setting functions given nodes context.model context.current.number) (focus_of context)

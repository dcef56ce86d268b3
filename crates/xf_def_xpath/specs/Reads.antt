-- What an expression reads and looks at: the fold of what each level asks, over the shape of the data.
use Rattle.std.specs.Prelude.{ℕ, List, [], filter, None}
use Rattle.xf_def_syntax.specs.declared.expr.Expr.{Expr}
use Rattle.xf_def_syntax.specs.declared.expr.Link.{Link}
use Rattle.xf_def_syntax.specs.declared.expr.Step.{Step}
use Rattle.xf_def_syntax.specs.declared.expr.Expr.TheOpen.{Expr-F, Link-F, Step-F}
use Rattle.xf_def_syntax.specs.declared.expr.Expr.TheFolds.{fold-Expr, fold-Link, fold-Step, map-Expr, map-Step}
use Rattle.xf_def_forest.specs.declared.content.Node.{Node}
use Rattle.xf_def_forest.specs.Visit.{Visit}
use Rattle.xf_def_forest.specs.Shape.{shape_of}
use Rattle.xf_def_xpath.specs.declared.context.Context.{Context}
use Rattle.xf_def_xpath.specs.Given.{Given}
use Rattle.xf_def_values.specs.Functions.{Functions}
use Rattle.xf_def_xpath.specs.Setting.{Setting, Focus, Meaning, LinkMeaning, Walk, setting_over, in_order}
use Rattle.xf_def_xpath.specs.Steps.{step_walk, begun}
use Rattle.xf_def_xpath.specs.Table.{function_at}
use Rattle.xf_def_xpath.specs.Meaning.{expr_meaning, focus_of}
use Rattle.xf_def_xpath.specs.Asked.{Asked, Trace, LinkTrace, WalkTrace, has_list, plainly, tightly, converted}
use Rattle.xf_def_xpath.specs.AskedSteps.{filtered, step_asked, walks_asked}
use Rattle.xf_def_xpath.specs.AskedCalls.{call_asked, links_asked}

-- one level, with what its parts ask in their places
abbrev pub expr_asked : Expr-F Trace LinkTrace WalkTrace → Setting → Focus → Asked
expr_asked (Expr-F.Number place k) = λ s c. plainly [] []
expr_asked (Expr-F.Literal place text) = λ s c. plainly [] []
expr_asked (Expr-F.Call place code arguments) = call_asked (function_at code) code arguments
expr_asked (Expr-F.Negated place signs operand) = λ s c. converted s (operand.asked s c)
expr_asked (Expr-F.Chain first links) = λ s c. links_asked links s c (first.asked s c)
expr_asked (Expr-F.Filter first predicates) = λ s c. filtered s predicates (first.asked s c)
expr_asked (Expr-F.Path place start walks) = λ s c. walks_asked s walks (tightly (begun start s c))
expr_asked (Expr-F.From first walks) = λ s c. walks_asked s walks (first.asked s c)

-- ---- the fold, with the meaning beside

abbrev pub meaning_in : Trace → Meaning
meaning_in t = t.meaning

abbrev pub link_meaning_in : LinkTrace → LinkMeaning
link_meaning_in t = record { operator = t.operator; right = t.right.meaning }

abbrev pub walk_in : WalkTrace → Walk
walk_in t = t.walk

abbrev pub expr_trace : Expr-F Trace LinkTrace WalkTrace → Trace
expr_trace level = record {
  meaning = expr_meaning (map-Expr Trace LinkTrace WalkTrace Meaning LinkMeaning Walk meaning_in link_meaning_in walk_in level);
  asked = expr_asked level;
}

abbrev pub link_trace : Link-F Trace LinkTrace WalkTrace → LinkTrace
link_trace link = record { operator = link.operator; right = link.right }

abbrev pub step_trace : Step-F Trace LinkTrace WalkTrace → WalkTrace
step_trace step = record {
  walk = step_walk (map-Step Trace LinkTrace WalkTrace Meaning LinkMeaning Walk meaning_in link_meaning_in walk_in step);
  asked = step_asked step;
}

abbrev pub trace : Expr → Trace
trace = fold-Expr Trace LinkTrace WalkTrace expr_trace link_trace step_trace

abbrev pub trace_of_link : Link → LinkTrace
trace_of_link = fold-Link Trace LinkTrace WalkTrace expr_trace link_trace step_trace

abbrev pub trace_of_step : Step → WalkTrace
trace_of_step = fold-Step Trace LinkTrace WalkTrace expr_trace link_trace step_trace

-- ---- of a whole expression

abbrev pub listed : List Visit → List ℕ → List ℕ
listed all ns = in_order (filter (λ x. has_list x.content) all) ns

-- the value counts as turned into a text
abbrev pub reads_in : Trace → Setting → Focus → List ℕ
reads_in t s c = in_order s.all (converted s (t.asked s c)).reads

abbrev pub looks_in : Trace → Setting → Focus → List ℕ
looks_in t s c = listed s.all (converted s (t.asked s c)).looks

-- a node set of a bind is not turned into one
abbrev pub set_looks_in : Trace → Setting → Focus → List ℕ
set_looks_in t s c = listed s.all (t.asked s c).looks

-- over the shape, without a limit on strings
abbrev pub shape_setting : Functions → Given → List Node → ℕ → ℕ → Setting
shape_setting functions given nodes model current = setting_over functions None given (shape_of nodes) model current

abbrev pub reads_of : Functions → Given → List Node → Expr → Context → List ℕ
reads_of functions given nodes expr context = reads_in (trace expr) (shape_setting functions given nodes context.model context.current.number) (focus_of context)

abbrev pub looks_of : Functions → Given → List Node → Expr → Context → List ℕ
looks_of functions given nodes expr context = looks_in (trace expr) (shape_setting functions given nodes context.model context.current.number) (focus_of context)

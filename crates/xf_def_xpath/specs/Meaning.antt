-- The value of an expression (XPath 1.0, section 3): what one level of the syntax tree makes of its parts, and the whole as its fold.
use Rattle.std.specs.Prelude.{ℕ, List, Option, Some, None, option_map, Result, Ok, Err}
use Rattle.xf_base.specs.Limits.{string_limit}
use Rattle.xf_def_syntax.specs.declared.expr.Expr.{Expr}
use Rattle.xf_def_syntax.specs.declared.expr.Link.{Link}
use Rattle.xf_def_syntax.specs.declared.expr.Step.{Step}
use Rattle.xf_def_syntax.specs.declared.expr.Expr.TheOpen.{Expr-F, Link-F}
use Rattle.xf_def_syntax.specs.declared.expr.Expr.TheFolds.{fold-Expr, fold-Link, fold-Step}
use Rattle.xf_def_forest.specs.declared.content.Node.{Node}
use Rattle.xf_def_forest.specs.Visit.{visits}
use Rattle.xf_def_xpath.specs.declared.context.Context.{Context}
use Rattle.xf_def_xpath.specs.declared.fault.EvalFault.{EvalFault}
use Rattle.xf_def_xpath.specs.declared.fault.EvalFault.TheVariants.{Long}
use Rattle.xf_def_xpath.specs.declared.value.Value.{Value}
use Rattle.xf_def_xpath.specs.declared.value.Value.TheVariants.{Nodes, Number}
use Rattle.xf_def_xpath.specs.Given.{Given}
use Rattle.xf_def_values.specs.Functions.{Functions}
use Rattle.xf_def_xpath.specs.Setting.{Setting, Focus, Meaning, LinkMeaning, Walk, ◌>>=◌, setting_over}
use Rattle.xf_def_xpath.specs.Conversions.{nodes_of, number_of, string_of}
use Rattle.xf_def_xpath.specs.Steps.{step_walk, kept_by_all, walked, begun}
use Rattle.xf_def_xpath.specs.Operators.{chained, signed}
use Rattle.xf_def_xpath.specs.Functions.{called, text_value}
use Rattle.xf_def_xpath.specs.Table.{function_at}

-- one level, with the meanings of its parts in their places
abbrev pub expr_meaning : Expr-F Meaning LinkMeaning Walk → Meaning
expr_meaning (Expr-F.Number place k) = λ s c. Some (Number k)
expr_meaning (Expr-F.Literal place text) = λ s c. text_value s text
expr_meaning (Expr-F.Call place code arguments) = called (function_at code) code arguments
expr_meaning (Expr-F.Negated place signs operand) = λ s c. option_map (λ k. Number (signed signs k)) (operand s c >>= number_of s)
expr_meaning (Expr-F.Chain first links) = λ s c. first s c >>= λ left. chained links left s c
expr_meaning (Expr-F.Filter first predicates) = λ s c. option_map Nodes (first s c >>= λ v. kept_by_all s predicates (nodes_of v))
expr_meaning (Expr-F.Path place start walks) = λ s c. option_map Nodes (walked s walks (begun start s c))
expr_meaning (Expr-F.From first walks) = λ s c. option_map Nodes (first s c >>= λ v. walked s walks (nodes_of v))

abbrev pub link_meaning : Link-F Meaning LinkMeaning Walk → LinkMeaning
link_meaning link = record { operator = link.operator; right = link.right }

abbrev pub meaning : Expr → Meaning
meaning = fold-Expr Meaning LinkMeaning Walk expr_meaning link_meaning step_walk

abbrev pub meaning_of_link : Link → LinkMeaning
meaning_of_link = fold-Link Meaning LinkMeaning Walk expr_meaning link_meaning step_walk

abbrev pub walk_of : Step → Walk
walk_of = fold-Step Meaning LinkMeaning Walk expr_meaning link_meaning step_walk

-- ---- of a whole expression

abbrev pub focus_of : Context → Focus
focus_of context = record { node = context.node.number; position = context.position; size = context.size }

-- over a forest, with the limit on strings
abbrev pub setting_of : Functions → Given → List Node → Context → Setting
setting_of functions given nodes context = setting_over functions (Some string_limit) given (visits nodes) context.model context.current.number

abbrev pub or_long : {X : Type 0} → Option X → Result X EvalFault
or_long None = Err Long
or_long (Some x) = Ok x

abbrev pub value_of : Functions → Given → List Node → Expr → Context → Result Value EvalFault
value_of functions given nodes expr context = or_long (meaning expr (setting_of functions given nodes context) (focus_of context))

-- the value as a text
abbrev pub text_worth : Meaning → Setting → Focus → Option (List ℕ)
text_worth m s c = m s c >>= string_of s

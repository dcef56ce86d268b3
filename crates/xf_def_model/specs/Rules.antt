-- The binds of a form's models (XForms 1.1, sections 3.3.4 and 7.4.1), each expression in place of its text with what it means and what it
-- asks.
use Rattle.std.specs.Prelude.{ℕ, Bool, true, false, ◌||◌, List, [], ◌∷◌, ◌++◌, map, Option, Some, None, option_map, get_or, slice_get}
use Rattle.std.specs.List.{list_any}
use Rattle.xf_def_syntax.specs.declared.expr.Expr.{Expr}
use Rattle.xf_def_syntax.specs.declared.expr.Expr.TheOpen.{Expr-F, Link-F, Step-F}
use Rattle.xf_def_syntax.specs.declared.expr.Expr.TheFolds.{fold-Expr}
use Rattle.xf_def_syntax.specs.declared.form.Bind.{Bind}
use Rattle.xf_def_syntax.specs.declared.form.Tables.{Tables}
use Rattle.xf_schema.specs.declared.written.NamedType.{NamedType}
use Rattle.xf_def_xpath.specs.Given.{Given}
use Rattle.xf_def_values.specs.Functions.{Functions}
use Rattle.xf_def_xpath.specs.Table.{Function, function_at}
use Rattle.xf_def_xpath.specs.Table as of
use Rattle.xf_def_xpath.specs.Asked.{Trace}
use Rattle.xf_def_xpath.specs.Reads.{trace}

-- a computed expression of a property
pub record Computed : Type 0 where
  pub trace : Trace
  -- whether it calls `position()` or `last()`, be it in a predicate
  pub is_placed : Bool

-- a bind
pub record Rule : Type 0 where
  pub model : ℕ
  -- the bind in which it stands
  pub around : Option ℕ
  pub node_set : Trace
  pub kind : Option NamedType
  pub calculate : Option Computed
  pub relevant : Option Computed
  pub readonly : Option Computed
  pub required : Option Computed
  pub constraint : Option Computed

-- what the expressions of one model share
pub record Scope : Type 0 where
  pub functions : Functions
  pub given : Given
  -- the model
  pub model : ℕ
  -- the binds of all models, in document order
  pub rules : List Rule

-- the same with another model
abbrev pub in_model : ℕ → Scope → Scope
in_model model scope = record scope { model = model }

-- as binds see it: no index, and no event
abbrev pub for_binds : Scope → Scope
for_binds scope = record scope { given = record scope.given { indexes = []; event = None } }

-- ---- calls of `position()` and `last()` (XPath 1.0, section 4.1)

abbrev pub is_place : Function → Bool
is_place of.position = true
is_place of.last = true
is_place other = false

abbrev pub some : List Bool → Bool
some bs = list_any (λ b. b) bs

abbrev pub expr_placed : Expr-F Bool Bool Bool → Bool
expr_placed (Expr-F.Number place k) = false
expr_placed (Expr-F.Literal place text) = false
expr_placed (Expr-F.Call place code arguments) = is_place (function_at code) || some arguments
expr_placed (Expr-F.Negated place signs operand) = operand
expr_placed (Expr-F.Chain first links) = first || some links
expr_placed (Expr-F.Filter first predicates) = first || some predicates
expr_placed (Expr-F.Path place start steps) = some steps
expr_placed (Expr-F.From first steps) = first || some steps

abbrev pub link_placed : Link-F Bool Bool Bool → Bool
link_placed link = link.right

abbrev pub step_placed : Step-F Bool Bool Bool → Bool
step_placed step = some step.predicates

abbrev pub calls_place : Expr → Bool
calls_place = fold-Expr Bool Bool Bool expr_placed link_placed step_placed

-- ---- of a form

abbrev pub computed_of : Expr → Computed
computed_of expr = record { trace = trace expr; is_placed = calls_place expr }

abbrev pub rule_of : Bind → Rule
rule_of bind = record {
  model = bind.model;
  around = bind.around;
  node_set = trace bind.node_set;
  kind = bind.properties.kind;
  calculate = option_map computed_of bind.properties.calculate;
  relevant = option_map computed_of bind.properties.relevant;
  readonly = option_map computed_of bind.properties.readonly;
  required = option_map computed_of bind.properties.required;
  constraint = option_map computed_of bind.properties.constraint;
}

-- of one of the models, by its number
abbrev pub scope_of : Functions → Given → Tables → ℕ → Scope
scope_of functions given tables model = record { functions = functions; given = given; model = model; rules = map rule_of tables.binds }

-- ---- the model of a bind, whatever names it

abbrev pub model_or : ℕ → Option Rule → ℕ
model_or model None = model
model_or model (Some r) = r.model

-- the bind's own model is that of its expressions
abbrev pub scope_of_bind : Scope → ℕ → Scope
scope_of_bind scope bind = in_model (model_or scope.model (slice_get scope.rules bind)) scope

-- ---- the binds around a bind

-- the node sets of a bind and of those around it, the outermost first, where those of the earlier binds are known
abbrev pub chain_around : List (List Trace) → Option ℕ → List Trace
chain_around known None = []
chain_around known (Some bind) = get_or known bind []

abbrev pub chains_after : List (List Trace) → List Rule → List (List Trace)
chains_after known [] = known
chains_after known (r ∷ rs) = chains_after (known ++ (chain_around known r.around ++ r.node_set ∷ []) ∷ []) rs

-- those of each bind
abbrev pub chains : Scope → List (List Trace)
chains scope = chains_after [] scope.rules

-- The nodes of binds over the shape of the data, by those of the bind around each (XForms 1.1, sections 3.3.4 and 7.2).
use Rattle.std.specs.Prelude.{ℕ, ◌≡◌, Bool, true, false, nat_lt, List, [], Option, Some, None, map, get_or, slice_get, if◌then◌else◌}
use Rattle.xf_def_syntax.specs.declared.expr.Expr.{Expr}
use Rattle.xf_def_syntax.specs.declared.form.Bind.{Bind}
use Rattle.xf_def_forest.specs.declared.content.Node.{Node}
use Rattle.xf_def_forest.specs.Shape.{shape_of}
use Rattle.xf_funcs.specs.Called.{called}
use Rattle.xf_def_xpath.specs.Given.{Given}
use Rattle.xf_def_xpath.specs.Reads.{trace}
use Rattle.xf_def_xpath.specs.Setting.{each}
use Rattle.xf_def_model.specs.Rules.{Scope, chains, rule_of}
use Rattle.xf_def_model.specs.Nested.{begun, reached_through, set_from, sets_of}
use Rattle.xf_eval.specs.Live.{AllLive}

-- the scope of a model's expressions
abbrev pub scope_in : Given → List Bind → ℕ → Scope
scope_in given binds model = record { functions = called; given = given; model = model; rules = map rule_of binds }

-- the sets of a node set, one from each of these nodes
abbrev pub sets_at : Given → List Node → ℕ → Expr → List ℕ → Option (List (List ℕ))
sets_at given nodes model expr ns = each (set_from None (scope_in given [] model) (shape_of nodes) (trace expr)) ns

-- the sets of a bind
abbrev pub sets_in : Given → List Bind → ℕ → List Node → Bind → Option (List (List ℕ))
sets_in given binds model nodes bind = sets_of None (scope_in given binds model) (shape_of nodes) (rule_of bind)

-- the nodes of the bind of this number
abbrev pub through : Given → List Bind → ℕ → List Node → ℕ → Option (List ℕ)
through given binds model nodes bind =
    let scope = scope_in given binds model in reached_through None scope (shape_of nodes) (get_or (chains scope) bind []) (begun scope)

-- the bind around a bind of this number, which stands before it
abbrev pub outer_in : Option ℕ → ℕ → Option ℕ
outer_in None number = None
outer_in (Some outer) number = if nat_lt outer number then Some outer else None

-- the bind around is an earlier one, or there is none
abbrev pub is_regular : Option ℕ → ℕ → Bool
is_regular None number = true
is_regular (Some outer) number = nat_lt outer number

-- the nodes that are kept of binds are those
abbrev pub AreKept : Given → List Bind → ℕ → List Node → List (Option (List ℕ)) → Type 0
AreKept given binds model nodes reached =
    (k : ℕ) (ns : List ℕ) → slice_get reached k ≡ Some (Some ns) → (through given binds model nodes k ≡ Some ns) × AllLive ns nodes

abbrev pub kept_if : Bool → List ℕ → Option (List ℕ)
kept_if true ns = Some ns
kept_if false ns = None

abbrev pub kept_in : Option (Option (List ℕ)) → Option (List ℕ)
kept_in None = None
kept_in (Some kept) = kept

-- The nodes of a bind, by those of the bind around it (XForms 1.1, sections 3.3.4 and 7.2).
use Rattle.std.specs.Prelude.{ℕ, nat_lt, List, [], Option, Some, None, map, option_map, get_or, if◌then◌else◌}
use Rattle.xf_base.specs.Limits.{string_limit}
use Rattle.xf_def_syntax.specs.declared.form.Bind.{Bind}
use Rattle.xf_def_forest.specs.Visit.{Visit}
use Rattle.xf_funcs.specs.Called.{called}
use Rattle.xf_def_xpath.specs.Given.{Given}
use Rattle.xf_def_xpath.specs.Setting.{each, in_order, joined}
use Rattle.xf_def_xpath.specs.Asked.{Trace}
use Rattle.xf_def_model.specs.Rules.{Scope, chains, rule_of}
use Rattle.xf_def_model.specs.Nested.{begun, reached_through, set_from}

-- the scope of a model's expressions
abbrev pub scope_in : Given → List Bind → ℕ → Scope
scope_in given binds model = record { functions = called; given = given; model = model; rules = map rule_of binds }

-- what a node set selects from nodes
abbrev pub selected : Scope → List Visit → Trace → List ℕ → Option (List ℕ)
selected scope all t ns = option_map (λ sets. in_order all (joined sets)) (each (set_from (Some string_limit) scope all t) ns)

-- the bind around a bind of this number, which stands before it
abbrev pub outer_in : Option ℕ → ℕ → Option ℕ
outer_in None number = None
outer_in (Some outer) number = if nat_lt outer number then Some outer else None

-- the nodes of the bind of this number, with the expressions of a model
abbrev pub through : Given → List Bind → ℕ → List Visit → ℕ → Option (List ℕ)
through given binds model all bind =
    let scope = scope_in given binds model in reached_through (Some string_limit) scope all (get_or (chains scope) bind []) (begun scope)

-- The nodes that a bind selects (XForms 1.1, sections 3.3.4 and 7.2): its node set is evaluated once for each node of the bind around it,
-- and an outermost one's for the document element of the model's first instance.
use Rattle.std.specs.Prelude.{ℕ, List, [], ◌∷◌, Option, Some, option_map, get_or}
use Rattle.xf_def_forest.specs.Visit.{Visit}
use Rattle.xf_def_xpath.specs.Given.{first_document}
use Rattle.xf_def_xpath.specs.Setting.{Setting, Focus, ◌>>=◌, setting_over, each, in_order, joined}
use Rattle.xf_def_xpath.specs.Conversions.{nodes_of}
use Rattle.xf_def_xpath.specs.Binding.{as_list, bound_nodes}
use Rattle.xf_def_xpath.specs.Asked.{Trace}
use Rattle.xf_def_model.specs.Rules.{Rule, Scope, scope_of_bind, chains, chain_around}

abbrev pub alone : ℕ → Focus
alone n = record { node = n; position = 1; size = 1 }

-- the setting of an expression of the model with this context node; strings have at most so many bytes
abbrev pub setting_for : Option ℕ → Scope → List Visit → ℕ → Setting
setting_for most scope all n = setting_over scope.functions most scope.given all scope.model n

-- the set from one node: a text stands for its parent, each node once; a plain value selects none
abbrev pub set_from : Option ℕ → Scope → List Visit → Trace → ℕ → Option (List ℕ)
set_from most scope all t n = option_map (λ v. bound_nodes all (nodes_of v)) (t.meaning (setting_for most scope all n) (alone n))

-- the nodes that are reached through the node sets of binds, each in the next one
abbrev pub reached_through : Option ℕ → Scope → List Visit → List Trace → List ℕ → Option (List ℕ)
reached_through most scope all [] ns = Some ns
reached_through most scope all (t ∷ ts) ns = do
  sets ← each (set_from most scope all t) ns
  reached_through most scope all ts (in_order all (joined sets))

abbrev pub begun : Scope → List ℕ
begun scope = as_list (first_document scope.model scope.given.documents)

-- the sets of a bind, one for each node of the bind around, in document order of these
abbrev pub sets_of : Option ℕ → Scope → List Visit → Rule → Option (List (List ℕ))
sets_of most scope all r = do
  ns ← reached_through most scope all (chain_around (chains scope) r.around) (begun scope)
  each (set_from most scope all r.node_set) ns

-- the nodes of a bind, in document order, each once, evaluated with the bind's own model: the scope's model does not count
abbrev pub nested : Option ℕ → Scope → List Visit → ℕ → Option (List ℕ)
nested most scope all bind =
    let own = scope_of_bind scope bind in reached_through most own all (get_or (chains own) bind []) (begun own)

-- What surrounds the expressions of a form, and what a binding selects (XForms 1.1, sections 3.2.3 and 3.2.4). Without a context node nothing is
-- evaluated.
use Rattle.std.specs.Prelude.{ℕ, List, [], ◌∷◌, find, Option, Some, None, option_map, ◌==◌}
use Rattle.xf_def_forest.specs.Visit.{Visit, first_of}
use Rattle.xf_def_xpath.specs.Given.{Given}
use Rattle.xf_def_values.specs.Functions.{Functions}
use Rattle.xf_def_xpath.specs.Setting.{Setting, Focus, Meaning, setting_over}
use Rattle.xf_def_xpath.specs.Conversions.{nodes_of}
use Rattle.xf_def_xpath.specs.Binding.{stand_ins, bound_nodes}
use Rattle.xf_def_ui.specs.Interface.{Bound, unbound, nodes, by_bind}

-- what surrounds the expressions of a form
pub record Around : Type 0 where
  pub functions : Functions
  -- the most bytes that a string may have, or None
  pub most : Option ℕ
  pub given : Given
  -- the visits of the data
  pub all : List Visit
  -- the nodes of a bind over the present data, by its number: None where a string is too long
  pub bound : ℕ → Option (List ℕ)

-- the setting of an expression of a model with this context node
abbrev pub setting : Around → ℕ → ℕ → Setting
setting a model n = setting_over a.functions a.most a.given a.all model n

-- a node by itself as a context
abbrev pub alone : ℕ → Focus
alone n = record { node = n; position = 1; size = 1 }

-- ---- what a binding selects

-- the nodes that an expression selects at a context node; none of a plain value
abbrev pub selected_by : Around → ℕ → Focus → Meaning → Option (List ℕ)
selected_by a model c m = option_map nodes_of (m (setting a model c.node) c)

-- all nodes, each by what stands for it
abbrev pub all_bound : Around → ℕ → Bound → Option Focus → Option (List ℕ)
all_bound a model binding None = Some []
all_bound a model unbound (Some c) = Some []
all_bound a model (nodes m) (Some c) = option_map (bound_nodes a.all) (selected_by a model c m)
all_bound a model (by_bind k) (Some c) = a.bound k

-- what stands for a node: for a text its parent, for a root its document element
abbrev pub stands_for : Around → ℕ → Option ℕ
stands_for a n = first_of (stand_ins a.all (find (λ x. x.number == n) a.all))

-- what stands for the first of the nodes
abbrev pub first_stand : Around → List ℕ → Option ℕ
first_stand a [] = None
first_stand a (n ∷ ns) = stands_for a n

-- the first node that is selected, and then what stands for it
abbrev pub first_bound : Around → ℕ → Bound → Option Focus → Option (Option ℕ)
first_bound a model binding None = Some None
first_bound a model unbound (Some c) = Some None
first_bound a model (nodes m) (Some c) = option_map (first_stand a) (selected_by a model c m)
first_bound a model (by_bind k) (Some c) = option_map first_of (a.bound k)

-- Three states, worked: what stands of the first model over all data and over its part.
use Rattle.std.proofs.Common.{◌≡◌, ℕ, List, [], ◌∷◌, ◌++◌, map, Result, refl, codes}
use Rattle.std.specs.Prelude.{Ok}
use Rattle.xf_def_syntax.specs.declared.form.Instance.{Instance}
use Rattle.xf_def_forest.specs.declared.content.Node.{Node}
use Rattle.xf_def_forest.specs.declared.content.Content.TheVariants.{Root}
use Rattle.xf_def_forest.specs.Visit.{visits}
use Rattle.xf_def_forest.specs.Shape.{shape_of}
use Rattle.xf_def_forest.specs.Examples.{node, element, text}
use Rattle.xf_def_xpath.specs.Examples.{child, from, call, literal}
use Rattle.xf_graph.specs.Edges.{Adjacency}
use Rattle.xf_def_model.specs.declared.property.Property.TheVariants.{Calculate, Relevant}
use Rattle.xf_def_model.specs.Rules.{Rule, Scope}
use Rattle.xf_def_model.specs.Applied.{Entry, Exception, applied}
use Rattle.xf_def_model.specs.Entries.{edge_count}
use Rattle.xf_def_model.specs.Circular.{graph_over}
use Rattle.xf_def_model.specs.Settled.{Contents, Valued, bounds, settled_contents, settled_values}
use Rattle.xf_def_model.specs.Examples.{bind, calculate, relevant, to, beside}
use Rattle.xf_def_model.specs.Examples as model
use Rattle.xf_law_recalculation.specs.Elsewhere.Parts.{part_of}
use Rattle.xf_law_recalculation.specs.Part.Whole.{Asks, asks_of}

record Standing : Type 0 where
  applied : Result (List Entry) Exception
  asks : List Asks
  count : ℕ
  graph : Adjacency
  contents : Contents
  values : List Valued

abbrev standing : Scope → List Entry → List Node → Standing
standing scope entries nodes = record {
  applied = applied scope nodes;
  asks = map (asks_of scope (shape_of nodes)) entries;
  count = edge_count scope (shape_of nodes) entries;
  graph = graph_over scope (shape_of nodes) entries;
  contents = settled_contents bounds scope entries (visits nodes);
  values = settled_values bounds scope entries (visits nodes);
}

abbrev at : ℕ → Instance
at of_model = record { model = of_model; id = []; place = []; space = 0 }

-- ---- ["d",["a","1"],["b"]] of the first model; `b` is calculated from `a`, and pertinent where there is an `a`

abbrev own : List Node
own = node 0 0 Root ∷ element 1 1 (codes "d") ∷ element 2 2 (codes "a") ∷ text 3 3 (codes "1") ∷ element 4 2 (codes "b") ∷ []

abbrev rules : List Rule
rules = relevant (beside (codes "a")) (calculate (beside (codes "a")) (bind (to (codes "b")))) ∷ []

abbrev scope : Scope
scope = model.scope rules

abbrev entries : List Entry
entries = record { node = 4; property = Calculate; bind = 0; position = 1; size = 1 } ∷ record { node = 4; property = Relevant; bind = 0; position = 1; size = 1 } ∷ []

-- ---- at rest, beside another model with the same names

abbrev other : List Node
other = node 5 0 Root ∷ element 6 1 (codes "d") ∷ element 7 2 (codes "a") ∷ text 8 3 (codes "2") ∷ element 9 2 (codes "b") ∷ []

at_rest : standing scope entries (own ++ other) ≡ standing scope entries (part_of (at 0 ∷ at 1 ∷ []) 0 (own ++ other))
at_rest = refl

at_rest_applied : applied scope (own ++ other) ≡ Ok entries
at_rest_applied = refl

at_rest_settled : settled_contents bounds scope entries (visits (own ++ other)) ≡ (4, codes "1") ∷ []
at_rest_settled = refl

-- ---- within an event: a copy of the document element is detached, its text set already, and the other model has lost its own

abbrev within : List Node
within = own ++ node 5 0 Root ∷ element 10 0 (codes "d") ∷ element 11 1 (codes "a") ∷ text 14 2 (codes "3") ∷ element 13 1 (codes "b") ∷ element 7 0 (codes "a") ∷ text 8 1 (codes "2") ∷ []

within_an_event : standing scope entries within ≡ standing scope entries (part_of (at 0 ∷ at 1 ∷ []) 0 within)
within_an_event = refl

within_applied : applied scope within ≡ Ok entries
within_applied = refl

-- ---- with an instance behind the other model's: ["z",["a","4"]], from which `b` is calculated

abbrev z : List Node
z = node 15 0 Root ∷ element 16 1 (codes "z") ∷ element 17 2 (codes "a") ∷ text 18 3 (codes "4") ∷ []

abbrev from_z : Scope
from_z = model.scope (calculate (from (call 18 (literal (codes "z") ∷ [])) (child (codes "a") ∷ [])) (bind (to (codes "b"))) ∷ [])

abbrev two_instances : Scope
two_instances = record from_z {
  given = record model.given { documents = record { model = 0; id = []; element = 1 } ∷ record { model = 1; id = []; element = 6 } ∷ record { model = 0; id = codes "z"; element = 16 } ∷ [] };
}

abbrev of_z : List Entry
of_z = record { node = 4; property = Calculate; bind = 0; position = 1; size = 1 } ∷ []

both_instances : standing two_instances of_z (own ++ other ++ z) ≡ standing two_instances of_z (part_of (at 0 ∷ at 1 ∷ record (at 0) { id = codes "z" } ∷ []) 0 (own ++ other ++ z))
both_instances = refl

their_part : part_of (at 0 ∷ at 1 ∷ record (at 0) { id = codes "z" } ∷ []) 0 (own ++ other ++ z) ≡ own ++ z
their_part = refl

both_settled : settled_contents bounds two_instances of_z (visits (own ++ other ++ z)) ≡ (4, codes "4") ∷ []
both_settled = refl

-- What is known of what is kept of a model that was built over data: changes of texts leave it so, and changes of what its binds do not see.
use Rattle.std.specs.Prelude.{◌≡◌, List, map, Ok}
use Rattle.xf_def_forest.specs.declared.content.Node.{Node}
use Rattle.xf_def_forest.specs.Shape.{shape_of}
use Rattle.xf_graph.specs.Cycle.{IsAcyclic}
use Rattle.xf_def_model.specs.Rules.{Scope}
use Rattle.xf_def_model.specs.Applied.{applied}
use Rattle.xf_def_model.specs.Circular.{graph_over}
use Rattle.xf_binds.specs.Kept.{Kept}
use Rattle.xf_binds_rebuild.specs.Web.{asks_of}

-- the entries are what the binds apply to the data, with what they ask, and no calculates depend on each other in a ring
pub record IsBuilt (scope : Scope) (nodes : List Node) (k : Kept) : Type 0 where
  pub applies : applied scope nodes ≡ Ok k.entries
  pub asks : k.asks ≡ map (asks_of scope (shape_of nodes)) k.entries
  pub acyclic : IsAcyclic (graph_over scope (shape_of nodes) k.entries)

-- An order in which the calculates of a model may be evaluated (XForms 1.1, section 4.3.2 and appendix C), and what a rebuild that is not
-- refused says of the entries.
use Rattle.std.specs.Prelude.{ℕ, ◌≡◌, true, List, map, filter, Option, Some, None, Result, Ok}
use Rattle.std.specs.List.{list_all}
use Rattle.xf_def_forest.specs.declared.content.Node.{Node}
use Rattle.xf_def_forest.specs.Forest.{Forest}
use Rattle.xf_def_forest.specs.Visit.{visits}
use Rattle.xf_def_forest.specs.Shape.{shape_of}
use Rattle.xf_graph.specs.declared.order.Order.{Order}
use Rattle.xf_graph.specs.declared.order.Order.TheVariants.{Sorted, Cycle}
use Rattle.xf_graph.specs.Edges.{Adjacency}
use Rattle.xf_graph.specs.Order.{IsOrder}
use Rattle.xf_graph.specs.Cycle.{IsAcyclic}
use Rattle.xf_def_model.specs.Rules.{Scope}
use Rattle.xf_def_model.specs.Applied.{Entry, applied, is_calculate}
use Rattle.xf_def_model.specs.Circular.{by_nodes, graph_over}
use Rattle.xf_def_machine.specs.Cycles.{reported_cycle}
use Rattle.xf_eval_shape.specs.Sound.{Sound}
use Rattle.xf_binds.specs.Kept.{Kept}
use Rattle.xf_binds_rebuild.specs.Web.{asks_of}
use Rattle.xf_binds_rebuild.specs.Links.{Source, links, nodes_in, sources_in}
use Rattle.xf_binds_rebuild.specs.Found.{is_small}
use Rattle.xf_binds_rebuild.specs.declared.ring.Sorting.{Sorting}
use Rattle.xf_binds_rebuild.specs.declared.ring.Sorting.TheVariants.{InTurn, Ring}
use Rattle.xf_binds_rebuild.specs.Rebuilt.{rebuilt, table_with}

-- an order of the graph, or the cycle that is reported
abbrev pub IsToldOf : Adjacency → Order → Type 0
IsToldOf graph (Sorted places) = (reported_cycle graph ≡ None) × IsOrder graph places
IsToldOf graph (Cycle places) = reported_cycle graph ≡ Some places

abbrev pub nodes_of : List Source → List ℕ
nodes_of sources = map (λ source. source.node) sources

-- nodes in an order of the graph over them, where there are some
abbrev pub IsInOrder : List Source → Option (List ℕ) → Type 0
IsInOrder sources None = Unit {0}
IsInOrder sources (Some nodes) = (places : List ℕ) × IsOrder (links sources) places × (nodes ≡ nodes_in (nodes_of sources) places)

-- ---- what is found of a model

abbrev pub ring_in : Sorting → Option (List ℕ)
ring_in (InTurn nodes) = None
ring_in (Ring nodes) = Some nodes

abbrev pub turns_in : Sorting → Option (List ℕ)
turns_in (InTurn nodes) = Some nodes
turns_in (Ring nodes) = None

-- ---- laws

-- the graph by what is kept of the entries is the one that is defined
pub record IsLinked (scope : Scope) (nodes : List Node) (entries : List Entry) (sources : List Source) : Type 0 where
  pub graph : links sources ≡ graph_over scope (shape_of nodes) entries
  pub nodes_in_order : nodes_of sources ≡ map (λ e. e.node) (by_nodes (shape_of nodes) (filter is_calculate entries))

abbrev pub LinksDefined : Type 0
LinksDefined = (scope : Scope) (forest : Forest) (entries : List Entry) → Sound forest → applied scope forest.nodes ≡ Ok entries → list_all is_small entries ≡ true →
    IsLinked scope forest.nodes entries (sources_in (visits forest.nodes) entries (map (asks_of scope (shape_of forest.nodes)) entries))

-- after a rebuild that is not refused the entries are those that the binds apply, with what they ask, and no calculates depend on each other
-- in a ring
pub record IsAfterRebuild (scope : Scope) (nodes : List Node) (table after : List Kept) : Type 0 where
  pub entries : List Entry
  pub applies : applied scope nodes ≡ Ok entries
  pub kept : after ≡ table_with table scope.model entries (map (asks_of scope (shape_of nodes)) entries)
  pub acyclic : IsAcyclic (graph_over scope (shape_of nodes) entries)

abbrev pub RebuildTells : Type 0
RebuildTells = (scope : Scope) (nodes : List Node) (table after : List Kept) → rebuilt scope nodes table ≡ Ok after → IsAfterRebuild scope nodes table after

-- The graph over the calculated nodes (XForms 1.1, section 4.3.2 and appendix C), by what their calculates ask as it is kept.
use Rattle.std.specs.Prelude.{ℕ, Bool, List, [], ◌∷◌, map, filter, Option, option_map, slice_get, if◌then◌else◌}
use Rattle.std.specs.List.{list_any, flat_map}
use Rattle.xf_def_forest.specs.Visit.{Visit, has}
use Rattle.xf_def_forest.specs.Order.{in_order}
use Rattle.xf_graph.specs.Edges.{Adjacency}
use Rattle.xf_def_xpath.specs.Binding.{as_list}
use Rattle.xf_def_model.specs.Applied.{Entry}
use Rattle.xf_def_model.specs.Circular.{places_of}
use Rattle.xf_def_machine.specs.Cycles.{reported_cycle}
use Rattle.xf_binds.specs.declared.web.Asks.{Asks}
pub use Rattle.xf_binds.specs.Turns.{Source, asks_on, calculated_nodes, depends, source_on}

-- with each the places of those that depend on it
abbrev pub links : List Source → Adjacency
links sources = map (λ source. places_of (λ reader. depends source reader.asks.reads) sources) sources

-- ---- of a model

-- the calculated nodes in document order
abbrev pub sources_in : List Visit → List Entry → List Asks → List Source
sources_in all entries web = map (source_on entries web) (in_order all (calculated_nodes entries))

-- ---- the cycle that is reported, by its nodes

abbrev pub nodes_in : List ℕ → List ℕ → List ℕ
nodes_in nodes places = flat_map (λ place. as_list (slice_get nodes place)) places

abbrev pub ring_of : List Source → Option (List ℕ)
ring_of sources = option_map (nodes_in (map (λ source. source.node) sources)) (reported_cycle (links sources))

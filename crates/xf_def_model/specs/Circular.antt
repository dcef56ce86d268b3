-- Cycles of calculates (XForms 1.1, section 4.3.2 and appendix C): the nodes with a calculate, each of which depends on the others that it
-- reads, or an ancestor of which it reads. Where cycles stand, one is reported: it goes through the first node in document order that lies
-- on a cycle, is the shortest such, and of these the least as a list in document order.
use Rattle.std.specs.Prelude.{ℕ, suc, ◌≡◌, Bool, List, [], ◌∷◌, map, filter, slice_get, ◌==◌, if◌then◌else◌}
use Rattle.std.specs.List.{flat_map}
use Rattle.xf_def_forest.specs.Visit.{Visit}
use Rattle.xf_graph.specs.Edges.{Adjacency}
use Rattle.xf_graph.specs.Cycle.{HasCycle, IsChosen}
use Rattle.xf_def_xpath.specs.Binding.{as_list}
use Rattle.xf_def_model.specs.Rules.{Scope}
use Rattle.xf_def_model.specs.Applied.{Entry, is_calculate}
use Rattle.xf_def_model.specs.Entries.{reads_of, touches}

-- a node with a calculate, and what that reads
pub record Reader : Type 0 where
  pub node : ℕ
  pub reads : List ℕ

-- the entries at the node, for each node in document order
abbrev pub by_nodes : List Visit → List Entry → List Entry
by_nodes all entries = flat_map (λ x. filter (λ e. e.node == x.number) entries) all

-- the calculated nodes in document order
abbrev pub calculated : Scope → List Visit → List Entry → List Reader
calculated scope all entries = map (λ e. record { node = e.node; reads = reads_of scope all e }) (by_nodes all (filter is_calculate entries))

-- ---- as a graph, each node by its place among them

abbrev pub places_from : {X : Type 0} → ℕ → (X → Bool) → List X → List ℕ
places_from at test [] = []
places_from at test (x ∷ xs) = if test x then at ∷ places_from (suc at) test xs else places_from (suc at) test xs

abbrev pub places_of : {X : Type 0} → (X → Bool) → List X → List ℕ
places_of test xs = places_from 0 test xs

-- with each the places of those that depend on it
abbrev pub dependents : List Visit → List Reader → Adjacency
dependents all readers = map (λ source. places_of (λ reader. touches all reader.reads source.node) readers) readers

-- over the visits of a shape
abbrev pub graph_over : Scope → List Visit → List Entry → Adjacency
graph_over scope all entries = dependents all (calculated scope all entries)

-- ---- what is reported

abbrev pub IsCircular : Scope → List Visit → List Entry → Type 0
IsCircular scope all entries = HasCycle (graph_over scope all entries)

abbrev pub nodes_at : List Reader → List ℕ → List ℕ
nodes_at readers places = flat_map (λ place. as_list (slice_get (map (λ reader. reader.node) readers) place)) places

-- each node of the list depends on the next, the last one on the first
abbrev pub IsReported : Scope → List Visit → List Entry → List ℕ → Type 0
IsReported scope all entries cycle =
    (places : List ℕ) × IsChosen (graph_over scope all entries) places × (cycle ≡ nodes_at (calculated scope all entries) places)

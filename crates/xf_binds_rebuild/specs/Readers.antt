-- Which calculates read a node: an index from nodes to the places of the calculates, and the edges that it gives.
use Rattle.std.specs.Prelude.{ℕ, ◌≡◌, ◌<◌, Bool, true, false, ◌&&◌, ◌||◌, List, [], ◌==◌, Option, Some, None, nat_eq, nat_lt, slice_get}
use Rattle.std.specs.List.{list_any}
use Rattle.indexmap.specs.IndexMap.{IndexMap, get}
use Rattle.xf_def_forest.specs.Visit as doc
use Rattle.xf_graph.specs.Edges.{Adjacency, has, has_edge}
use Rattle.xf_binds_rebuild.specs.Links.{Source, links}

abbrev pub list_or : Option (List ℕ) → List ℕ
list_or None = []
list_or (Some ns) = ns

-- the places of the calculates that read a node
abbrev pub readers_at : {S : Type 0} → IndexMap ℕ (List ℕ) S → ℕ → List ℕ
readers_at readers n = list_or (get nat_eq readers n)

abbrev pub reads_by : Option Source → ℕ → Bool
reads_by None n = false
reads_by (Some source) n = doc.has n source.asks.reads

-- the calculate at a place reads the node
abbrev pub reads_at : List Source → ℕ → ℕ → Bool
reads_at sources place n = reads_by (slice_get sources place) n

abbrev pub TellsReaders : {S : Type 0} → List Source → IndexMap ℕ (List ℕ) S → Type 0
TellsReaders sources readers = (n place : ℕ) → has (readers_at readers n) place ≡ reads_at sources place n

-- all readers are vertices
abbrev pub AreVertices : {S : Type 0} → ℕ → IndexMap ℕ (List ℕ) S → Type 0
AreVertices count readers = (n place : ℕ) → has (readers_at readers n) place ≡ true → place < count

-- a calculate at this place reads one of these nodes
abbrev pub reads_one : {S : Type 0} → IndexMap ℕ (List ℕ) S → List ℕ → ℕ → Bool
reads_one readers ns place = list_any (λ n. has (readers_at readers n) place) ns

-- the edges of a graph, and from one vertex those to others
abbrev pub edge_with : Adjacency → ℕ → (ℕ → Bool) → ℕ → ℕ → Bool
edge_with graph vertex to_other from to = ((vertex == from) && to_other to) || has_edge graph from to

-- the edges from the vertices before this one
abbrev pub edges_before : List Source → ℕ → ℕ → ℕ → Bool
edges_before sources place from to = nat_lt from place && has_edge (links sources) from to

-- A dependency graph: vertices are the numbers below its size, and at each vertex stand the vertices that read from it.
use Rattle.std.specs.Prelude.{◌≡◌, ◌<◌, ◌^◌, ℕ, Bool, true, false, ◌||◌, ◌==◌, List, [], ◌∷◌, length, slice_index_or}

-- the readers of each vertex, in the vertices' order
abbrev pub Adjacency : Type 0
Adjacency = List (List ℕ)

-- whether the vertex is in the list
abbrev pub has : List ℕ → ℕ → Bool
has [] vertex = false
has (first ∷ rest) vertex = (first == vertex) || has rest vertex

-- whether `to` reads from `from`
abbrev pub has_edge : Adjacency → ℕ → ℕ → Bool
has_edge graph from to = has (slice_index_or graph from []) to

-- the graph has this many vertices, and exactly the edges of the test
pub record HasEdges (graph : Adjacency) (count : ℕ) (edge : ℕ → ℕ → Bool) : Type 0 where
  pub size : length graph ≡ count
  pub edges : (from to : ℕ) → has_edge graph from to ≡ edge from to

-- edges join vertices of the graph
abbrev pub IsWithin : Adjacency → Type 0
IsWithin graph = (from to : ℕ) → has_edge graph from to ≡ true → (from < length graph) × (to < length graph)

-- the second list holds the same edges from the other end
pub record IsMirrored (readers sources : Adjacency) : Type 0 where
  pub sizes : length sources ≡ length readers
  pub fits : length readers < 2 ^ 32
  pub turned : (from to : ℕ) → has_edge sources to from ≡ has_edge readers from to

-- What a change reaches: the least set that holds the changed vertices and, with a vertex, those that read from it.
use Rattle.std.specs.Prelude.{◌≡◌, ℕ, zero, suc, Bool, true, ◌↔◌, List}
use Rattle.xf_graph.specs.Edges.{Adjacency, has, has_edge}
use Rattle.xf_graph.specs.Order.{EachOnce, ReadsBack}

-- that many edges lead from a changed vertex to the vertex
abbrev pub IsReachedBy : Adjacency → List ℕ → ℕ → ℕ → Type 0
IsReachedBy graph changed zero vertex = has changed vertex ≡ true
IsReachedBy graph changed (suc edges) vertex =
    (source : ℕ) × IsReachedBy graph changed edges source × (has_edge graph source vertex ≡ true)

-- the vertex is in the least set
abbrev pub IsReached : Adjacency → List ℕ → ℕ → Type 0
IsReached graph changed vertex = (edges : ℕ) × IsReachedBy graph changed edges vertex

-- a set that holds the changed vertices and, with a vertex, those that read from it
pub record IsClosed (graph : Adjacency) (changed : List ℕ) (set : ℕ → Bool) : Type 0 where
  pub holds : (vertex : ℕ) → has changed vertex ≡ true → set vertex ≡ true
  pub readers : (source reader : ℕ) → set source ≡ true → has_edge graph source reader ≡ true → set reader ≡ true

-- the least set, each vertex once, none before one that it reads from
pub record IsPertinent (graph : Adjacency) (changed vertices : List ℕ) : Type 0 where
  pub members : (vertex : ℕ) → (has vertices vertex ≡ true) ↔ IsReached graph changed vertex
  pub once : EachOnce vertices
  pub reads_back : ReadsBack graph vertices

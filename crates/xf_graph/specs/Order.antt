-- An order in which values may be computed: no vertex stands before one that it reads from.
use Rattle.std.specs.Prelude.{◌≡◌, ℕ, false, true, nat_lt, List, [], ◌∷◌, length}
use Rattle.xf_graph.specs.Edges.{Adjacency, has, has_edge}

-- no vertex stands twice
abbrev pub EachOnce : List ℕ → Type 0
EachOnce [] = Unit {0}
EachOnce (first ∷ rest) = (has rest first ≡ false) × EachOnce rest

-- no vertex reads from itself or from one that stands after it
abbrev pub ReadsBack : Adjacency → List ℕ → Type 0
ReadsBack graph [] = Unit {0}
ReadsBack graph (first ∷ rest) =
    ((source : ℕ) → has (first ∷ rest) source ≡ true → has_edge graph source first ≡ false) × ReadsBack graph rest

-- every vertex of the graph exactly once, none before one that it reads from
pub record IsOrder (graph : Adjacency) (vertices : List ℕ) : Type 0 where
  pub all : (vertex : ℕ) → has vertices vertex ≡ nat_lt vertex (length graph)
  pub once : EachOnce vertices
  pub reads_back : ReadsBack graph vertices

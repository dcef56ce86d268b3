-- What a loop that empties one set keeps of both lists of sets.
use Rattle.std.proofs.Common.{◌≡◌, ℕ, ◌==◌, false}
use Rattle.xf_graph.specs.Edges.{Adjacency, has_edge}

-- the other ends still agree, and nothing changed but at the vertex
pub record CutSoFar (vertex : ℕ) (sets0 others0 sets others : Adjacency) : Type 0 where
  pub turned : (from to : ℕ) → has_edge others to from ≡ has_edge sets from to
  pub sets_kept : (from to : ℕ) → (vertex == from) ≡ false → has_edge sets from to ≡ has_edge sets0 from to
  pub others_kept : (from to : ℕ) → (vertex == to) ≡ false → has_edge others from to ≡ has_edge others0 from to

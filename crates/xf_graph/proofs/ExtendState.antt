-- What a loop that adds empty sets keeps.
use Rattle.std.proofs.Common.{◌≡◌, ℕ, ◌≤◌, length, take}
use Rattle.xf_graph.specs.Edges.{Adjacency, has_edge}

-- the first sets are as they were, and the later ones have nothing
pub record ExtendedSoFar (old now : Adjacency) : Type 0 where
  pub longer : length old ≤ length now
  pub first : take (length old) now ≡ old
  pub edges : (from to : ℕ) → has_edge now from to ≡ has_edge old from to

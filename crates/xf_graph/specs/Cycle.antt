-- Cycles: lists of vertices, each of which reads from the next, and the last from the first; and the one that is reported.
use Rattle.std.specs.Prelude.{◌≡◌, ℕ, ◌<◌, ◌≤◌, ◌⊎◌, true, List, [], ◌∷◌, length}
use Rattle.xf_graph.specs.Edges.{Adjacency, has, has_edge}

-- one vertex reads from the first of the list, each of the list from the next, and the last from the other vertex
abbrev pub ReadsAlong : Adjacency → ℕ → List ℕ → ℕ → Type 0
ReadsAlong graph reader [] source = has_edge graph source reader ≡ true
ReadsAlong graph reader (next ∷ rest) source = (has_edge graph next reader ≡ true) × ReadsAlong graph next rest source

abbrev pub IsCycle : Adjacency → List ℕ → Type 0
IsCycle graph [] = ⊥
IsCycle graph (first ∷ rest) = ReadsAlong graph first rest first

abbrev pub IsAcyclic : Adjacency → Type 0
IsAcyclic graph = (cycle : List ℕ) → IsCycle graph cycle → ⊥

abbrev pub HasCycle : Adjacency → Type 0
HasCycle graph = (cycle : List ℕ) × IsCycle graph cycle

-- of two lists of one length, the first is not the greater, where the first place at which they differ decides
abbrev pub IsNotAfter : List ℕ → List ℕ → Type 0
IsNotAfter [] others = Unit {0}
IsNotAfter (x ∷ xs) [] = ⊥
IsNotAfter (x ∷ xs) (y ∷ ys) = (x < y) ⊎ ((x ≡ y) × IsNotAfter xs ys)

-- the list begins with the vertex
abbrev pub BeginsWith : List ℕ → ℕ → Type 0
BeginsWith [] vertex = ⊥
BeginsWith (first ∷ rest) vertex = first ≡ vertex

-- the cycle begins with the least vertex that lies on any cycle, is the shortest through it, and among these the least as a list
pub record IsChosenFrom (graph : Adjacency) (first : ℕ) (chosen : List ℕ) : Type 0 where
  pub cycle : IsCycle graph chosen
  pub begins : BeginsWith chosen first
  pub least : (other : List ℕ) → IsCycle graph other → (vertex : ℕ) → has other vertex ≡ true → first ≤ vertex
  pub shortest : (other : List ℕ) → IsCycle graph other → has other first ≡ true → length chosen ≤ length other
  pub earliest : (other : List ℕ) → IsCycle graph other → BeginsWith other first → length other ≡ length chosen → IsNotAfter chosen other

-- the cycle that is reported
abbrev pub IsChosen : Adjacency → List ℕ → Type 0
IsChosen graph cycle = (first : ℕ) × IsChosenFrom graph first cycle

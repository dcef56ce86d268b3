-- What a walk keeps from one step to the next.
use Rattle.std.proofs.Common.{◌≡◌, ℕ, ◌+◌, true, cond, ◌⊎◌, List, [], ◌∷◌, ◌++◌, reverse, length, slice_index_or, ◌==◌}
use Rattle.xf_graph.specs.declared.walk.Step.{Step}
use Rattle.xf_graph.specs.Edges.{Adjacency, has, has_edge}
use Rattle.xf_graph.specs.Order.{EachOnce, ReadsBack}
use Rattle.xf_graph.specs.Pertinent.{IsReached}

-- the vertices of the steps
abbrev pub vertices : List Step → List ℕ
vertices [] = []
vertices (step ∷ steps) = step.vertex ∷ vertices steps

-- the vertices that were entered and not left, the last first
abbrev pub exits : List Step → List ℕ
exits [] = []
exits (step ∷ steps) = cond step.leaves (step.vertex ∷ exits steps) (exits steps)

-- each of the list reads from the next, and the vertex from the first
abbrev pub IsLinked : Adjacency → ℕ → List ℕ → Type 0
IsLinked graph reader [] = Unit {0}
IsLinked graph reader (source ∷ rest) = (has_edge graph source reader ≡ true) × IsLinked graph source rest

-- each step's vertex reads from the last vertex that was entered before it, and so on down
abbrev pub AreChained : Adjacency → List Step → Type 0
AreChained graph [] = Unit {0}
AreChained graph (step ∷ steps) = IsLinked graph step.vertex (exits steps) × AreChained graph steps

-- before a vertex is left, its readers have been left or stand in a step above or in the list
abbrev pub AreReady : Adjacency → (ℕ → ℕ) → List ℕ → List Step → Type 0
AreReady graph mark above [] = Unit {0}
AreReady graph mark above (step ∷ steps) =
    (step.leaves ≡ true → (reader : ℕ) → has_edge graph step.vertex reader ≡ true → (mark reader ≡ 2) ⊎ (has above reader ≡ true))
    × AreReady graph mark (step.vertex ∷ above) steps

pub record IsWalk (graph : Adjacency) (roots : List ℕ) (mark : ℕ → ℕ) (steps : List Step) (left : List ℕ) : Type 0 where
  pub left_marked : (v : ℕ) → has left v ≡ true → mark v ≡ 2
  pub marked_left : (v : ℕ) → mark v ≡ 2 → has left v ≡ true
  pub once : EachOnce (reverse left)
  pub reads_back : ReadsBack graph (reverse left)
  pub closed : (v w : ℕ) → mark v ≡ 2 → has_edge graph v w ≡ true → mark w ≡ 2
  pub entered : (v : ℕ) → has (exits steps) v ≡ true → mark v ≡ 1
  pub marked : (v : ℕ) → (mark v ≡ 0) ⊎ ((mark v ≡ 2) ⊎ (has (exits steps) v ≡ true))
  pub entered_once : EachOnce (exits steps)
  pub chained : AreChained graph steps
  pub ready : AreReady graph mark [] steps
  pub reached : (v : ℕ) → mark v ≡ 2 → IsReached graph roots v
  pub steps_reached : (v : ℕ) → has (vertices steps) v ≡ true → IsReached graph roots v
  pub roots_kept : (v : ℕ) → has roots v ≡ true → (mark v ≡ 2) ⊎ (has (vertices steps) v ≡ true)

-- the most that is still to be done: for each vertex of the list that has no mark, its readers and two steps
abbrev pub unmarked_cost : Adjacency → (ℕ → ℕ) → List ℕ → ℕ
unmarked_cost graph mark [] = 0
unmarked_cost graph mark (v ∷ vs) = cond (mark v == 0) (2 + length (slice_index_or graph v [])) 0 + unmarked_cost graph mark vs

abbrev pub joined : Adjacency → List ℕ
joined [] = []
joined (row ∷ rows) = row ++ joined rows

-- Marks that say how far vertices stand from a target, counted along the vertices that each reads from.
use Rattle.std.specs.Prelude.{◌≡◌, ℕ, zero, suc, ◌+◌, ◌<◌, ◌≤◌, ◌⊎◌, true, cond, ◌&&◌, ◌==◌, List, [], ◌∷◌, ◌++◌, length, ◌⊎◌, Option, Some, None}
use Rattle.xf_graph.specs.Edges.{Adjacency, has, has_edge}
use Rattle.xf_graph.specs.Order.{EachOnce}
use Rattle.xf_graph.specs.Cycle.{ReadsAlong}

-- the unmarked vertices of the list got the mark, and stand at the end of the queue, each once
pub record MarksNew (vertices : List ℕ) (value : ℕ) (old new : ℕ → ℕ) (old_queue new_queue : List ℕ) : Type 0 where
  pub added : List ℕ
  pub queue : new_queue ≡ old_queue ++ added
  pub once : EachOnce added
  pub members : (v : ℕ) → has added v ≡ ((old v == 0) && has vertices v)
  pub marks : (v : ℕ) → new v ≡ cond (has added v) value (old v)

-- the least vertex of the list that has the mark, if there is one
abbrev pub IsLeastWith : List ℕ → (ℕ → ℕ) → ℕ → Option ℕ → Type 0
IsLeastWith vertices mark value None = (v : ℕ) → has vertices v ≡ true → mark v ≡ value → ⊥
IsLeastWith vertices mark value (Some least) =
    (has vertices least ≡ true) × (mark least ≡ value) × ((v : ℕ) → has vertices v ≡ true → mark v ≡ value → least ≤ v)

-- no cycle leads through the vertex
abbrev pub IsOnNoCycle : Adjacency → ℕ → Type 0
IsOnNoCycle graph vertex = (rest : List ℕ) → ReadsAlong graph vertex rest vertex → ⊥

-- a mark less than the limit is 1 more than the number of edges from the target, 0 where there is no such mark; the
-- target reads from no vertex with a lesser mark than the limit
pub record IsMeasured (graph : Adjacency) (target : ℕ) (mark : ℕ → ℕ) (limit : ℕ) : Type 0 where
  pub start : mark target ≡ 1
  pub one : (v : ℕ) → mark v ≡ 1 → v ≡ target
  pub before : (v k : ℕ) → mark v ≡ suc (suc k) → (w : ℕ) × (has_edge graph w v ≡ true) × (mark w ≡ suc k)
  pub spread : (w v : ℕ) → has_edge graph w v ≡ true → 1 ≤ mark w → mark w < limit → (1 ≤ mark v) × (mark v ≤ mark w + 1)
  pub closing : (w : ℕ) → has_edge graph w target ≡ true → 1 ≤ mark w → limit ≤ mark w

-- the target reads from a vertex with the limit as its mark
abbrev pub ClosesAt : Adjacency → ℕ → (ℕ → ℕ) → ℕ → Type 0
ClosesAt graph target mark limit = (w : ℕ) × (has_edge graph w target ≡ true) × (mark w ≡ limit) × (1 ≤ limit)

-- from a vertex on, each is the least with a mark that the one before it reads from, the marks fall by 1, and the last reads from the target
abbrev pub IsTraced : Adjacency → (ℕ → ℕ) → ℕ → ℕ → ℕ → List ℕ → Type 0
IsTraced graph mark target reader zero rest = ⊥
IsTraced graph mark target reader (suc zero) [] = has_edge graph target reader ≡ true
IsTraced graph mark target reader (suc zero) (next ∷ rest) = ⊥
IsTraced graph mark target reader (suc (suc k)) [] = ⊥
IsTraced graph mark target reader (suc (suc k)) (next ∷ rest) =
    (has_edge graph next reader ≡ true) × (mark next ≡ suc (suc k))
    × ((other : ℕ) → has_edge graph other reader ≡ true → mark other ≡ suc (suc k) → next ≤ other)
    × IsTraced graph mark target next (suc k) rest

abbrev pub IsTrace : Adjacency → (ℕ → ℕ) → ℕ → ℕ → List ℕ → Type 0
IsTrace graph mark target limit [] = ⊥
IsTrace graph mark target limit (first ∷ rest) = (first ≡ target) × IsTraced graph mark target target limit rest

-- some vertices of the list stand at the end of the queue
pub record PutsSome (vertices old_queue new_queue : List ℕ) : Type 0 where
  pub added : List ℕ
  pub queue : new_queue ≡ old_queue ++ added
  pub few : length added ≤ length vertices
  pub members : (v : ℕ) → has added v ≡ true → has vertices v ≡ true

-- each marked vertex lies on no cycle
abbrev pub ArePeeled : Adjacency → (ℕ → ℕ) → Type 0
ArePeeled graph mark = (v : ℕ) → (mark v ≡ 0) ⊎ IsOnNoCycle graph v

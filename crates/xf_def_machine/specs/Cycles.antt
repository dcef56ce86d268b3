-- The cycle that is reported where calculates depend on each other in a ring (XForms 1.1, appendix C): through the first node in document
-- order that lies on one, the shortest, and of these the least as a list, each node depending on the next.
use Rattle.std.specs.Prelude.{ℕ, zero, suc, Bool, List, [], ◌∷◌, map, filter, length, Option, Some, None}
use Rattle.std.specs.List.{flat_map}
use Rattle.xf_graph.specs.Edges.{Adjacency, has_edge}

-- the numbers from this one on, so many
abbrev pub counted_from : ℕ → ℕ → List ℕ
counted_from from zero = []
counted_from from (suc count) = from ∷ counted_from (suc from) count

-- the vertices that a vertex reads from, in order
abbrev pub sources_of : Adjacency → ℕ → List ℕ
sources_of graph reader = filter (λ v. has_edge graph v reader) (counted_from 0 (length graph))

-- the lists of so many vertices and one that begin with this vertex, each reading from the next, in the order of lists
abbrev pub walks : Adjacency → ℕ → ℕ → List (List ℕ)
walks graph zero v = (v ∷ []) ∷ []
walks graph (suc more) v = flat_map (λ next. map (λ walk. v ∷ walk) (walks graph more next)) (sources_of graph v)

-- the last of a list, or this one before it
abbrev pub last_in : ℕ → List ℕ → ℕ
last_in v [] = v
last_in v (w ∷ ws) = last_in w ws

-- the last reads from the first
abbrev pub closes : Adjacency → ℕ → List ℕ → Bool
closes graph v walk = has_edge graph v (last_in v walk)

-- the first of a list
abbrev pub first_in : {X : Type 0} → List X → Option X
first_in [] = None
first_in (x ∷ xs) = Some x

-- the first of the two that is there
abbrev pub or_later : {X : Type 0} → Option X → Option X → Option X
or_later None later = later
or_later (Some x) later = Some x

-- the first of the lists that are cycles through the vertex, the shorter ones before: with this length or more, for so many lengths
abbrev pub cycle_from : Adjacency → ℕ → ℕ → ℕ → Option (List ℕ)
cycle_from graph v more zero = None
cycle_from graph v more (suc lengths) = or_later (first_in (filter (closes graph v) (walks graph more v))) (cycle_from graph v (suc more) lengths)

-- the cycle that is reported through the first of these vertices that lies on one
abbrev pub first_cycle : Adjacency → List ℕ → Option (List ℕ)
first_cycle graph [] = None
first_cycle graph (v ∷ vs) = or_later (cycle_from graph v 0 (length graph)) (first_cycle graph vs)

-- vertices are numbered in document order
abbrev pub reported_cycle : Adjacency → Option (List ℕ)
reported_cycle graph = first_cycle graph (counted_from 0 (length graph))

-- Small graphs, on which the definitions are computed.
use Rattle.std.proofs.Common.{◌≡◌, true, false, inl, inr, [], ◌∷◌, refl, lit<}
use Rattle.xf_graph.specs.Edges.{Adjacency, has_edge}
use Rattle.xf_graph.specs.Order.{EachOnce}
use Rattle.xf_graph.specs.Cycle.{IsCycle, IsNotAfter}
use Rattle.xf_graph.specs.Pertinent.{IsReached}

-- 0 reads from 2, 1 from 2, 2 from 1, 3 from itself
abbrev knotted : Adjacency
knotted = [] ∷ (2 ∷ []) ∷ (0 ∷ 1 ∷ []) ∷ (3 ∷ []) ∷ []

-- 1 reads from 0, 2 from 1, 3 from 2 and from 0
abbrev chain : Adjacency
chain = (1 ∷ 3 ∷ []) ∷ (2 ∷ []) ∷ (3 ∷ []) ∷ [] ∷ []

reads_from : has_edge knotted 2 0 ≡ true
reads_from = refl

not_the_other_way : has_edge knotted 0 2 ≡ false
not_the_other_way = refl

reads_from_itself : has_edge knotted 3 3 ≡ true
reads_from_itself = refl

none_past_the_end : has_edge knotted 9 0 ≡ false
none_past_the_end = refl

a_cycle_of_two : IsCycle knotted (1 ∷ 2 ∷ [])
a_cycle_of_two = (refl, refl)

the_same_turned : IsCycle knotted (2 ∷ 1 ∷ [])
the_same_turned = (refl, refl)

a_cycle_of_one : IsCycle knotted (3 ∷ [])
a_cycle_of_one = refl

-- 0 reads from 2, and 2 does not read from 0
no_cycle : IsCycle knotted (0 ∷ 2 ∷ []) → ⊥
no_cycle c = absurd (false_is_not_true c.1)
  where
    false_is_not_true : false ≡ true → ⊥
    false_is_not_true e = cc

reached_by_two : IsReached chain (0 ∷ []) 2
reached_by_two = (2, (1, (0, refl, refl), refl))

reached_itself : IsReached chain (3 ∷ []) 3
reached_itself = (0, refl)

stands_once : EachOnce (0 ∷ 1 ∷ 2 ∷ 3 ∷ [])
stands_once = (refl, (refl, (refl, (refl, tt))))

the_first_difference_decides : IsNotAfter (0 ∷ 1 ∷ 3 ∷ []) (0 ∷ 2 ∷ 1 ∷ [])
the_first_difference_decides = inr (refl, inl (lit< tt))

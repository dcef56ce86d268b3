-- Laws of the definitions: the least closed set, orders and cycles, the one cycle that is reported.
use Rattle.std.proofs.Common.{◌≡◌, ℕ, zero, suc, ◌+◌, ◌<◌, Bool, true, ◌⊎◌, inl, inr, List, [], ◌∷◌, ◌++◌, length, slice_index_or, cond, ◌==◌, refl, sym, ap, ◌∙◌, subst, arith}
use Rattle.std.proofs.lemmas.Bool.{cases_Bool, cases_eq, lt-ltb, false≢true}
use Rattle.xf_graph.specs.declared.walk.Step.{Step}
use Rattle.xf_graph.specs.Edges.{Adjacency, has, has_edge, IsWithin}
use Rattle.xf_graph.specs.Order.{ReadsBack, IsOrder}
use Rattle.xf_graph.specs.Cycle.{ReadsAlong, IsCycle, IsAcyclic, HasCycle, IsNotAfter, BeginsWith, IsChosen}
use Rattle.xf_graph.specs.Pertinent.{IsReachedBy, IsReached, IsClosed, IsPertinent}
use Rattle.xf_graph.specs.Steps.{exit, entries_before}
use Rattle.xf_graph.proofs.HasLists.{has_first, has_later, has_cases}
use Rattle.xf_graph.proofs.WalkState.{IsWalk}
use Rattle.xf_graph.proofs.WalkLemmas.{IsWalk-left}
use Rattle.xf_graph.proofs.WalkEnters.{IsWalk-begins, IsWalk-passed, IsWalk-entered, HasCycle-met, IsPertinent-at_end}
use Rattle.xf_graph.proofs.WalkMeasure.{AreKnown, AreKnown-begin, AreKnown-after, AreKnown-entered, to_do, to_do-left, to_do-entered}
use Rattle.xf_graph.proofs.OrderLemmas.{IsOrder-pertinent, range_of}

-- ---- the least closed set
module _ (graph : Adjacency) (changed : List ℕ) where
  -- what is reached is closed: it holds the changed vertices ..
  pub IsReached-changed : (v : ℕ) → has changed v ≡ true → IsReached graph changed v
  IsReached-changed v h = (0, h)

  -- .. and the readers of each vertex in it
  pub IsReached-reader : (source reader : ℕ) → IsReached graph changed source → has_edge graph source reader ≡ true → IsReached graph changed reader
  IsReached-reader source reader r edge = (suc r.0, (source, r.1, edge))

  -- every closed set holds it
  in_closed : (set : ℕ → Bool) → IsClosed graph changed set → (edges v : ℕ) → IsReachedBy graph changed edges v → set v ≡ true
  in_closed set closed zero v r = closed.holds v r
  in_closed set closed (suc edges) v r = closed.readers r.0 v (in_closed set closed edges r.0 r.1) r.2

  pub IsReached-least : (set : ℕ → Bool) → IsClosed graph changed set → (v : ℕ) → IsReached graph changed v → set v ≡ true
  IsReached-least set closed v r = in_closed set closed r.0 v r.1

  -- so the pertinent vertices are a closed set, and are in each
  pub IsClosed-pertinent : (vertices : List ℕ) → IsPertinent graph changed vertices → IsClosed graph changed (has vertices)
  IsClosed-pertinent vertices p = record {
    holds = λ v h. (p.members v).1 (IsReached-changed v h);
    readers = λ source reader h edge. (p.members reader).1 (IsReached-reader source reader ((p.members source).0 h) edge);
  }

  pub IsPertinent-least : (vertices : List ℕ) → IsPertinent graph changed vertices → (set : ℕ → Bool) → IsClosed graph changed set → (v : ℕ) → has vertices v ≡ true → set v ≡ true
  IsPertinent-least vertices p set closed v h = IsReached-least set closed v ((p.members v).0 h)

-- ---- an order rules every cycle out
module _ (graph : Adjacency) where
  -- on the way from one vertex to another, each vertex reads from one on it
  source_on : (reader z x : ℕ) (rest : List ℕ) → ReadsAlong graph reader rest z → has (reader ∷ rest) x ≡ true
      → (w : ℕ) × (has_edge graph w x ≡ true) × ((has rest w ≡ true) ⊎ (w ≡ z))
  source_on reader z x [] along h = elim (has_cases reader x [] h) [
    | inl e ↦ (z, ap (has_edge graph z) (sym e) ∙ along, inr refl)
    | inr q ↦ absurd (false≢true q)
  ]
  source_on reader z x (next ∷ rest) along h = elim (has_cases reader x (next ∷ rest) h) [
    | inl e ↦ (next, ap (has_edge graph next) (sym e) ∙ along.0, inl (has_first next rest))
    | inr q ↦ (let s = source_on next z x rest along.1 q in (s.0, s.1, elim s.2 [ inl i ↦ inl (has_later next s.0 rest i) | inr e ↦ inr e ]))
  ]

  source_in : (cycle : List ℕ) (x : ℕ) → IsCycle graph cycle → has cycle x ≡ true → (w : ℕ) × (has_edge graph w x ≡ true) × (has cycle w ≡ true)
  source_in [] x c h = absurd c
  source_in (first ∷ rest) x c h =
      let s = source_on first first x rest c h in
      (s.0, s.1, elim s.2 [ inl i ↦ has_later first s.0 rest i | inr e ↦ subst (λ w. has (first ∷ rest) w ≡ true) (sym e) (has_first first rest) ])

  none_among : (vs cycle : List ℕ) → ReadsBack graph vs → IsCycle graph cycle → ((v : ℕ) → has cycle v ≡ true → has vs v ≡ true) → ⊥
  none_among vs [] back c members = c
  none_among [] (first ∷ rest) back c members = false≢true (members first (has_first first rest))
  none_among (x ∷ xs) (first ∷ rest) back c members = elim (cases_Bool (has (first ∷ rest) x)) [
    | inl h ↦ (let s = source_in (first ∷ rest) x c h in false≢true (sym (back.0 s.0 (members s.0 s.2)) ∙ s.1))
    | inr h ↦ none_among xs (first ∷ rest) back.1 c (λ v m. elim (has_cases x v xs (members v m)) [
      | inl e ↦ absurd (false≢true (sym h ∙ (ap (has (first ∷ rest)) e ∙ m)))
      | inr q ↦ q
    ])
  ]

  pub IsAcyclic-from_order : IsWithin graph → (vertices : List ℕ) → IsOrder graph vertices → IsAcyclic graph
  IsAcyclic-from_order within vertices order cycle c =
      none_among vertices cycle order.reads_back c (λ v m. let s = source_in cycle v c m in order.all v ∙ lt-ltb v (length graph) (within s.0 v s.1).1)

-- ---- where no cycle stands there is an order: a walk ends
module _ (graph : Adjacency) (roots : List ℕ) where
  ends : (most : ℕ) (mark : ℕ → ℕ) (steps : List Step) (left : List ℕ) → IsWalk graph roots mark steps left → AreKnown graph roots steps
      → to_do graph roots mark steps < most → HasCycle graph ⊎ ((vertices : List ℕ) × IsPertinent graph roots vertices)
  ends zero mark steps left now known less = absurd (omega arith)
  ends (suc most) mark [] left now known less = inr (_, IsPertinent-at_end graph roots mark left now)
  ends (suc most) mark (step ∷ steps) left now known less =
      elim (cases_Bool step.leaves) [
        | inl leaves ↦
            let marked : ℕ → ℕ = λ x. cond (step.vertex == x) 2 (mark x) in
            let falls = to_do-left graph roots mark marked step steps (λ x. refl) in
            ends most marked steps (left ++ step.vertex ∷ []) (IsWalk-left graph roots mark marked step steps left (λ x. refl) leaves now)
            (AreKnown-after graph roots step steps known) (omega arith)
        | inr enters ↦ elim (cases_eq (mark step.vertex) 2) [
          | inl seen ↦ ends most mark steps left (IsWalk-passed graph roots mark step steps left enters now seen) (AreKnown-after graph roots step steps known) (omega arith)
          | inr not_left ↦ elim (cases_eq (mark step.vertex) 1) [
            | inl met ↦ inl (HasCycle-met graph roots mark step steps left enters now met)
            | inr not_entered ↦
                let marked : ℕ → ℕ = λ x. cond (step.vertex == x) 1 (mark x) in
                let none : mark step.vertex ≡ 0 = elim (now.marked step.vertex) [
                  | inl z ↦ z
                  | inr (inl z) ↦ absurd (not_left z)
                  | inr (inr h) ↦ absurd (not_entered (now.entered step.vertex h))
                ] in
                let falls = to_do-entered graph roots mark marked step steps (λ x. refl) none known in
                ends most marked (entries_before (slice_index_or graph step.vertex []) (exit step.vertex ∷ steps)) left
                (IsWalk-entered graph roots mark step steps left enters now marked (λ x. refl) not_left not_entered)
                (AreKnown-entered graph roots step steps known) (omega arith)
          ]
        ]
      ]

  -- a cycle stands, or the least closed set has an order
  pub HasCycle-or_pertinent : HasCycle graph ⊎ ((vertices : List ℕ) × IsPertinent graph roots vertices)
  HasCycle-or_pertinent =
      ends (to_do graph roots (λ _. 0) (entries_before roots []) + 1) (λ _. 0) (entries_before roots []) []
      (IsWalk-begins graph roots (λ _. 0) (λ _. refl)) (AreKnown-begin graph roots) (omega arith)

pub HasOrder-from_acyclic : (graph : Adjacency) → IsWithin graph → IsAcyclic graph → (vertices : List ℕ) × IsOrder graph vertices
HasOrder-from_acyclic graph within none =
    let all = range_of (length graph) in
    elim (HasCycle-or_pertinent graph all.0) [
      | inl c ↦ absurd (none c.0 c.1)
      | inr p ↦ (p.0, IsOrder-pertinent graph all.0 within all.1 p.0 p.1)
    ]

-- ---- one cycle is reported
same_from_both : (xs ys : List ℕ) → length xs ≡ length ys → IsNotAfter xs ys → IsNotAfter ys xs → xs ≡ ys
same_from_both [] [] e p q = refl
same_from_both [] (y ∷ ys) e p q = absurd (omega arith)
same_from_both (x ∷ xs) [] e p q = absurd (omega arith)
same_from_both (x ∷ xs) (y ∷ ys) e (inl p) (inl q) = absurd (omega arith)
same_from_both (x ∷ xs) (y ∷ ys) e (inl p) (inr q) = absurd (omega (arith, q.0))
same_from_both (x ∷ xs) (y ∷ ys) e (inr p) (inl q) = absurd (omega (arith, p.0))
same_from_both (x ∷ xs) (y ∷ ys) e (inr p) (inr q) = let s = same_from_both xs ys (omega arith) p.1 q.1 in let f = p.0 in cc

begins_has : (vs : List ℕ) (v : ℕ) → BeginsWith vs v → has vs v ≡ true
begins_has [] v b = absurd b
begins_has (first ∷ rest) v b = subst (λ w. has (first ∷ rest) w ≡ true) b (has_first first rest)

pub IsChosen-unique : (graph : Adjacency) (one other : List ℕ) → IsChosen graph one → IsChosen graph other → one ≡ other
IsChosen-unique graph one other (f, a) (h, b) =
    let hb = begins_has other h b.begins in
    let fa = begins_has one f a.begins in
    let le = a.least other b.cycle h hb in
    let ge = b.least one a.cycle f fa in
    let same : f ≡ h = omega arith in
    let begins : BeginsWith other f = subst (BeginsWith other) (sym same) b.begins in
    let begins' : BeginsWith one h = subst (BeginsWith one) same a.begins in
    let short = a.shortest other b.cycle (begins_has other f begins) in
    let short' = b.shortest one a.cycle (begins_has one h begins') in
    let long : length one ≡ length other = omega arith in
    same_from_both one other long (a.earliest other b.cycle begins (sym long)) (b.earliest one a.cycle begins' long)

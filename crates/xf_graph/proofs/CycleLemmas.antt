-- The traced cycle is the one that is reported.
use Rattle.std.proofs.Common.{◌≡◌, ℕ, zero, suc, ◌+◌, ◌<◌, ◌≤◌, true, inl, inr, List, [], ◌∷◌, ◌++◌, length, sym, ap, ◌∙◌, subst, arith}
use Rattle.std.proofs.lemmas.Bool.{cases_lt, cases_eq, false≢true}
use Rattle.xf_graph.specs.Edges.{Adjacency, has, has_edge}
use Rattle.xf_graph.specs.Cycle.{ReadsAlong, IsCycle, IsNotAfter, BeginsWith, IsChosenFrom}
use Rattle.xf_graph.specs.Search.{IsOnNoCycle, IsMeasured, IsTraced, IsTrace}
use Rattle.xf_graph.proofs.HasLists.{has_cases}
use Rattle.xf_graph.proofs.MeasureLemmas.{mark-le_length, limit-le_length}

-- ---- a cycle turned so that it begins with another of its vertices
module _ (graph : Adjacency) where
  split_at : (x v z : ℕ) (vs : List ℕ) → ReadsAlong graph x vs z → has vs v ≡ true
      → (before : List ℕ) × (after : List ℕ) × ReadsAlong graph x before v × ReadsAlong graph v after z × (length before + length after + 1 ≡ length vs)
  split_at x v z [] along h = absurd (false≢true h)
  split_at x v z (u ∷ us) along h = elim (cases_eq u v) [
    | inl e ↦ ([], us, ap (λ w. has_edge graph w x) (sym e) ∙ along.0, subst (λ w. ReadsAlong graph w us z) e along.1, omega arith)
    | inr ne ↦
        let q : has us v ≡ true = elim (has_cases u v us h) [ inl e ↦ absurd (ne e) | inr q ↦ q ] in
        let s = split_at u v z us along.1 q in
        (u ∷ s.0, s.1, (along.0, s.2), s.3, (let n = s.4 in omega arith))
  ]

  pub join_at : (x v z : ℕ) (before after : List ℕ) → ReadsAlong graph x before v → ReadsAlong graph v after z → ReadsAlong graph x (before ++ v ∷ after) z
  join_at x v z [] after a b = (a, b)
  join_at x v z (u ∷ us) after a b = (a.0, join_at u v z us after a.1 b)

  length-joined : (v : ℕ) (before after : List ℕ) → length (before ++ v ∷ after) ≡ length before + length after + 1
  length-joined v [] after = omega arith
  length-joined v (u ∷ us) after = omega (arith, length-joined v us after)

  pub turned : (cycle : List ℕ) (v : ℕ) → IsCycle graph cycle → has cycle v ≡ true → (rest : List ℕ) × ReadsAlong graph v rest v × (length rest + 1 ≡ length cycle)
  turned [] v c h = absurd (false≢true h)
  turned (first ∷ rest) v c h = elim (cases_eq first v) [
    | inl e ↦ (rest, subst (λ w. ReadsAlong graph w rest w) e c, omega arith)
    | inr ne ↦
        let q : has rest v ≡ true = elim (has_cases first v rest h) [ inl e ↦ absurd (ne e) | inr q ↦ q ] in
        let s = split_at first v first rest c q in
        (s.1 ++ first ∷ s.0, join_at v first v s.1 s.0 s.3 s.2, (let n = s.4 in omega (arith, length-joined first s.1 s.0)))
  ]

-- ---- the trace
module _ (graph : Adjacency) (target : ℕ) (mark : ℕ → ℕ) (limit : ℕ) where
  pub IsTraced-next : (reader next value less : ℕ) (rest : List ℕ) → value ≡ suc less → 1 ≤ less
      → has_edge graph next reader ≡ true → mark next ≡ value → ((other : ℕ) → has_edge graph other reader ≡ true → mark other ≡ value → next ≤ other)
      → IsTraced graph mark target next less rest → IsTraced graph mark target reader value (next ∷ rest)
  IsTraced-next reader next value zero rest e positive edge m least t = absurd (omega arith)
  IsTraced-next reader next value (suc k) rest e positive edge m least t =
      subst (λ n. IsTraced graph mark target reader n (next ∷ rest)) (sym e)
      (edge, m ∙ e, (λ other o n. least other o (n ∙ sym e)), t)

  pub IsTraced-end : (reader value : ℕ) → value ≡ 1 → has_edge graph target reader ≡ true → IsTraced graph mark target reader value []
  IsTraced-end reader value e edge = subst (λ n. IsTraced graph mark target reader n []) (sym e) edge

  ReadsAlong-traced : (reader value : ℕ) (rest : List ℕ) → IsTraced graph mark target reader value rest → ReadsAlong graph reader rest target × (length rest + 1 ≡ value)
  ReadsAlong-traced reader zero rest t = absurd t
  ReadsAlong-traced reader (suc zero) [] t = (t, omega arith)
  ReadsAlong-traced reader (suc zero) (next ∷ rest) t = absurd t
  ReadsAlong-traced reader (suc (suc k)) [] t = absurd t
  ReadsAlong-traced reader (suc (suc k)) (next ∷ rest) t =
      let i = ReadsAlong-traced next (suc k) rest t.3 in ((t.0, i.0), (let n = i.1 in omega arith))

  module _ (measured : IsMeasured graph target mark limit) where
    -- what a vertex reads from has no lesser mark than the one that the trace takes there
    below : (next k : ℕ) → mark next ≡ suc (suc k) → suc (suc k) ≤ limit → (u : ℕ) → has_edge graph u next ≡ true → 1 ≤ mark u → suc k ≤ mark u
    below next k m within u edge positive = elim (cases_lt (mark u) limit) [
      | inl less ↦ (let s = measured.spread u next edge positive less in omega (arith, s.1))
      | inr more ↦ omega arith
    ]

    IsNotAfter-traced : (reader value : ℕ) (rest others : List ℕ) → IsTraced graph mark target reader value rest → value ≤ limit
        → ((u : ℕ) → has_edge graph u reader ≡ true → 1 ≤ mark u → value ≤ mark u)
        → ReadsAlong graph reader others target → length others ≡ length rest → IsNotAfter rest others
    IsNotAfter-traced reader zero rest others t within least along e = absurd t
    IsNotAfter-traced reader (suc zero) [] others t within least along e = tt
    IsNotAfter-traced reader (suc zero) (next ∷ rest) others t within least along e = absurd t
    IsNotAfter-traced reader (suc (suc k)) [] others t within least along e = absurd t
    IsNotAfter-traced reader (suc (suc k)) (next ∷ rest) [] t within least along e = absurd (omega arith)
    IsNotAfter-traced reader (suc (suc k)) (next ∷ rest) (u ∷ us) t within least along e =
        let n = (ReadsAlong-traced next (suc k) rest t.3).1 in
        let b = mark-le_length graph target mark limit measured u us along.1 (omega arith) in
        let l = least u along.0 b.0 in
        let m : mark u ≡ suc (suc k) = (let c = b.1 in omega arith) in
        let le = t.2 u along.0 m in
        elim (cases_eq next u) [
          | inl same ↦ inr (
            same,
            IsNotAfter-traced next (suc k) rest us t.3 (omega arith) (below next k t.1 within)
                (subst (λ w. ReadsAlong graph w us target) (sym same) along.1) (omega arith),
          )
          | inr ne ↦ inl (omega arith)
        ]

    pub IsChosenFrom-trace : ((v : ℕ) → v < target → IsOnNoCycle graph v) → (cycle : List ℕ) → IsTrace graph mark target limit cycle → IsChosenFrom graph target cycle
    IsChosenFrom-trace none [] t = absurd t
    IsChosenFrom-trace none (first ∷ rest) t =
        let r = ReadsAlong-traced target limit rest t.1 in
        record {
          cycle = subst (λ w. ReadsAlong graph w rest w) (sym t.0) r.0;
          begins = t.0;
          least = λ other c v h. elim (cases_lt v target) [
            | inl less ↦ (let q = turned graph other v c h in absurd (none v less q.0 q.1))
            | inr more ↦ more
          ];
          shortest = λ other c h.
              let q = turned graph other target c h in
              let l = limit-le_length graph target mark limit measured q.0 q.1 in
              omega (arith, q.2, r.1);
          earliest = λ other c b e. earliest_of other c b e;
        } where
          earliest_of : (other : List ℕ) → IsCycle graph other → BeginsWith other target → length other ≡ length (first ∷ rest) → IsNotAfter (first ∷ rest) other
          earliest_of [] c b e = absurd c
          earliest_of (o ∷ os) c b e = inr (
            t.0 ∙ sym b,
            IsNotAfter-traced target limit rest os t.1 (omega arith) (λ u edge positive. measured.closing u edge positive)
                (subst (λ w. ReadsAlong graph w os w) b c) (omega arith),
          )

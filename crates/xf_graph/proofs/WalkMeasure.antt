-- What is still to be done falls at each step of a walk.
use Rattle.std.proofs.Common.{◌≡◌, ℕ, ◌+◌, ◌<◌, ◌≤◌, Bool, true, false, cond, ◌||◌, inl, inr, List, [], ◌∷◌, ◌++◌, length, slice_index_or, zero, suc, ◌==◌, refl, sym, ap, ◌∙◌, subst, arith}
use Rattle.std.proofs.lemmas.Bool.{cases_Bool, cases_eq, eq-eqb, ne_eqb, or_left, or_right, false≢true}
use Rattle.xf_graph.specs.declared.walk.Step.{Step}
use Rattle.xf_graph.specs.Edges.{Adjacency, has, has_edge}
use Rattle.xf_graph.specs.Order.{EachOnce}
use Rattle.xf_graph.specs.Steps.{entry, exit, entries_before}
use Rattle.xf_graph.proofs.HasLists.{has_first, has_later, has_cases, has-append, mark_at, mark_cases}
use Rattle.xf_graph.proofs.WalkState.{unmarked_cost, joined, vertices}
use Rattle.xf_graph.proofs.WalkEnters.{vertices-entries_cases}

pub length-entries : (ks : List ℕ) (steps : List Step) → length (entries_before ks steps) ≡ length ks + length steps
length-entries [] steps = omega arith
length-entries (k ∷ ks) steps = omega (arith, length-entries ks (entry k ∷ steps))

module _ (graph : Adjacency) (mark marked : ℕ → ℕ) where
  costs : ℕ → ℕ
  costs v = 2 + length (slice_index_or graph v [])

  one-le : (v : ℕ) → (marked v ≡ 0 → mark v ≡ 0) → cond (marked v == 0) (costs v) 0 ≤ cond (mark v == 0) (costs v) 0
  one-le v keeps =
      elim (cases_eq (marked v) 0) [
        | inl e ↦ rw (eq-eqb (marked v) 0 e, eq-eqb (mark v) 0 (keeps e)) (omega arith)
        | inr ne ↦ rw (ne_eqb (marked v) 0 ne) (omega arith)
      ]

  pub unmarked_cost-le : ((v : ℕ) → marked v ≡ 0 → mark v ≡ 0) → (vs : List ℕ) → unmarked_cost graph marked vs ≤ unmarked_cost graph mark vs
  unfolding costs
  unmarked_cost-le keeps [] = omega arith
  unmarked_cost-le keeps (v ∷ vs) = omega (arith, one-le v (keeps v), unmarked_cost-le keeps vs)

  pub unmarked_cost-falls : ((v : ℕ) → marked v ≡ 0 → mark v ≡ 0) → (at : ℕ) → mark at ≡ 0 → (marked at ≡ 0 → ⊥)
      → (vs : List ℕ) → has vs at ≡ true → unmarked_cost graph marked vs + (2 + length (slice_index_or graph at [])) ≤ unmarked_cost graph mark vs
  unfolding costs
  unmarked_cost-falls keeps at none some [] h = absurd (false≢true h)
  unmarked_cost-falls keeps at none some (v ∷ vs) h =
      elim (has_cases v at vs h) [
        | inl e ↦
            let rest = unmarked_cost-le keeps vs in
            subst (λ x. cond (marked x == 0) (2 + length (slice_index_or graph x [])) 0 + unmarked_cost graph marked vs + (2 + length (slice_index_or graph at [])) ≤ cond (mark x == 0) (2 + length (slice_index_or graph x [])) 0 + unmarked_cost graph mark vs)
            (sym e) (rw (ne_eqb (marked at) 0 some, eq-eqb (mark at) 0 none) (omega arith))
        | inr q ↦ omega (arith, one-le v (keeps v), unmarked_cost-falls keeps at none some vs q)
      ]

-- a vertex that reads from another stands among all readers
pub has-joined : (graph : Adjacency) (from to : ℕ) → has_edge graph from to ≡ true → has (joined graph) to ≡ true
has-joined [] zero to h = absurd (false≢true h)
has-joined [] (suc from) to h = absurd (false≢true h)
has-joined (row ∷ rows) zero to h = has-append row (joined rows) to ∙ or_left (has row to) (has (joined rows) to) h
has-joined (row ∷ rows) (suc from) to h = has-append row (joined rows) to ∙ or_right (has row to) (has (joined rows) to) (has-joined rows from to h)

-- what stands in the steps is a root or reads from another vertex
abbrev pub AreKnown : Adjacency → List ℕ → List Step → Type 0
AreKnown graph roots steps = (v : ℕ) → has (vertices steps) v ≡ true → has (roots ++ joined graph) v ≡ true

pub AreKnown-begin : (graph : Adjacency) (roots : List ℕ) → AreKnown graph roots (entries_before roots [])
AreKnown-begin graph roots v h = elim (vertices-entries_cases roots [] v h) [
  | inl q ↦ has-append roots (joined graph) v ∙ or_left (has roots v) (has (joined graph) v) q
  | inr q ↦ absurd (false≢true q)
]

pub AreKnown-after : (graph : Adjacency) (roots : List ℕ) (step : Step) (steps : List Step) → AreKnown graph roots (step ∷ steps) → AreKnown graph roots steps
AreKnown-after graph roots step steps known v h = known v (has_later step.vertex v (vertices steps) h)

pub AreKnown-entered : (graph : Adjacency) (roots : List ℕ) (step : Step) (steps : List Step) → AreKnown graph roots (step ∷ steps)
    → AreKnown graph roots (entries_before (slice_index_or graph step.vertex []) (exit step.vertex ∷ steps))
AreKnown-entered graph roots step steps known v h = elim (vertices-entries_cases (slice_index_or graph step.vertex []) (exit step.vertex ∷ steps) v h) [
  | inl q ↦ has-append roots (joined graph) v ∙ or_right (has roots v) (has (joined graph) v) (has-joined graph step.vertex v q)
  | inr q ↦ known v q
]

abbrev pub to_do : Adjacency → List ℕ → (ℕ → ℕ) → List Step → ℕ
to_do graph roots mark steps = unmarked_cost graph mark (roots ++ joined graph) + length steps

module _ (graph : Adjacency) (roots : List ℕ) (mark marked : ℕ → ℕ) (step : Step) (steps : List Step) where
  pub to_do-left : ((x : ℕ) → marked x ≡ cond (step.vertex == x) 2 (mark x)) → to_do graph roots marked steps < to_do graph roots mark (step ∷ steps)
  to_do-left set =
      let le = unmarked_cost-le graph mark marked
      (λ v z. elim (mark_cases mark marked step.vertex 2 set v) [ inl q ↦ absurd (omega (arith, q.1)) | inr q ↦ sym q.1 ∙ z ])
      (roots ++ joined graph) in
      omega (arith, le)

  pub to_do-entered : ((x : ℕ) → marked x ≡ cond (step.vertex == x) 1 (mark x)) → mark step.vertex ≡ 0 → AreKnown graph roots (step ∷ steps)
      → to_do graph roots marked (entries_before (slice_index_or graph step.vertex []) (exit step.vertex ∷ steps)) < to_do graph roots mark (step ∷ steps)
  to_do-entered set none known =
      let falls = unmarked_cost-falls graph mark marked
      (λ v z. elim (mark_cases mark marked step.vertex 1 set v) [ inl q ↦ absurd (omega (arith, q.1)) | inr q ↦ sym q.1 ∙ z ])
      step.vertex none (λ z. let one = mark_at mark marked step.vertex 1 set in omega arith)
      (roots ++ joined graph) (known step.vertex (has_first step.vertex (vertices steps))) in
      omega (arith, falls, length-entries (slice_index_or graph step.vertex []) (exit step.vertex ∷ steps))

-- marks set on several vertices at once
pub unmarked_cost-falls_all :
    (graph : Adjacency) (vs : List ℕ) (value : ℕ) → 1 ≤ value → (added : List ℕ) (mark marked : ℕ → ℕ) → EachOnce added
    → ((v : ℕ) → has added v ≡ true → mark v ≡ 0) → ((v : ℕ) → has added v ≡ true → has vs v ≡ true)
    → ((v : ℕ) → marked v ≡ cond (has added v) value (mark v))
    → unmarked_cost graph marked vs + length added ≤ unmarked_cost graph mark vs
unmarked_cost-falls_all graph vs value positive [] mark marked once none known set =
    let le = unmarked_cost-le graph mark marked (λ v z. sym (set v) ∙ z) vs in omega arith
unmarked_cost-falls_all graph vs value positive (a ∷ later) mark marked once none known set =
    let mid : ℕ → ℕ = λ v. cond (a == v) value (mark v) in
    let same : (v : ℕ) → mid v ≡ cond (a == v) value (mark v) = λ v. refl in
    let falls = unmarked_cost-falls graph mark mid
    (λ v z. elim (mark_cases mark mid a value same v) [ inl q ↦ (let e = sym q.1 ∙ z in absurd (omega arith)) | inr q ↦ sym q.1 ∙ z ])
    a (none a (has_first a later)) (λ z. let e = sym (mark_at mark mid a value same) ∙ z in omega arith) vs (known a (has_first a later)) in
    let rest = unmarked_cost-falls_all graph vs value positive later mid marked once.1
    (λ v h. elim (mark_cases mark mid a value same v) [
      | inl q ↦ absurd (false≢true (sym once.0 ∙ (ap (has later) q.0 ∙ h)))
      | inr q ↦ q.1 ∙ none v (has_later a v later h)
    ])
    (λ v h. known v (has_later a v later h))
    (λ v. elim (cases_Bool (a == v)) [
      | inl e ↦ set v ∙ ap (λ b. cond (b || has later v) value (mark v)) e ∙ sym (either (has later v) (mid v) (ap (λ b. cond b value (mark v)) e))
      | inr e ↦ set v ∙ ap (λ b. cond (b || has later v) value (mark v)) e ∙ ap (λ m. cond (has later v) value m) (sym (ap (λ b. cond b value (mark v)) e))
    ]) in
    omega arith
  where
    either : (b : Bool) (m : ℕ) → m ≡ value → cond b value m ≡ value
    either true m e = refl
    either false m e = e

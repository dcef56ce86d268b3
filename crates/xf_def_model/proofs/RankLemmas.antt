-- From an order of the calculated nodes, numbers that fall along what is read.
use Rattle.std.proofs.Common.{◌≡◌, ℕ, zero, suc, ◌<◌, ◌≤◌, Bool, true, false, not, cond, ◌||◌, ◌==◌, inl, inr, List, [], ◌∷◌, length, refl, sym, ap, ◌∙◌, subst, arith}
use Rattle.std.specs.Prelude.{filter}
use Rattle.std.specs.List.{list_any}
use Rattle.std.proofs.lemmas.Bool.{cases_eq, or_left, or_right, eqb-true, eq-eqb, false≢true}
use Rattle.xf_graph.specs.Edges.{Adjacency, has, has_edge}
use Rattle.xf_graph.specs.Order.{EachOnce, ReadsBack}
use Rattle.xf_graph.proofs.HasLists.{has_first, has_later, has_cases}

-- ---- as many different numbers as there are below a bound, at most

has-at : (x : ℕ) (b : Bool) (xs : List ℕ) (v : ℕ) → has (cond b (x ∷ xs) xs) v ≡ true → has (x ∷ xs) v ≡ true
has-at x true xs v h = h
has-at x false xs v h = has_later x v xs h

has-filter : (p : ℕ → Bool) (xs : List ℕ) (v : ℕ) → has (filter p xs) v ≡ true → has xs v ≡ true
has-filter p [] v h = h
has-filter p (x ∷ xs) v h = elim (has_cases x v (filter p xs) (has-at x (p x) (filter p xs) v h)) [
  | inl e ↦ subst (λ w. has (w ∷ xs) v ≡ true) (sym e) (has_first v xs)
  | inr later ↦ has_later x v xs (has-filter p xs v later)
]

passes-at : (p : ℕ → Bool) (x : ℕ) (b : Bool) → p x ≡ b → (xs : List ℕ) (v : ℕ) → (has xs v ≡ true → p v ≡ true) → has (cond b (x ∷ xs) xs) v ≡ true → p v ≡ true
passes-at p x true e xs v h k = elim (has_cases x v xs k) [ inl same ↦ subst (λ w. p w ≡ true) same e | inr later ↦ h later ]
passes-at p x false e xs v h k = h k

has-passes : (p : ℕ → Bool) (xs : List ℕ) (v : ℕ) → has (filter p xs) v ≡ true → p v ≡ true
has-passes p [] v h = absurd (false≢true h)
has-passes p (x ∷ xs) v h = passes-at p x (p x) refl (filter p xs) v (has-passes p xs v) h

lacks : (b : Bool) → (b ≡ true → ⊥) → b ≡ false
lacks true h = absurd (h refl)
lacks false h = refl

once-at : (x : ℕ) (b : Bool) (xs : List ℕ) → has xs x ≡ false → EachOnce xs → EachOnce (cond b (x ∷ xs) xs)
once-at x true xs h once = (h, once)
once-at x false xs h once = once

once-filter : (p : ℕ → Bool) (xs : List ℕ) → EachOnce xs → EachOnce (filter p xs)
once-filter p [] h = h
once-filter p (x ∷ xs) h =
    once-at x (p x) (filter p xs) (lacks (has (filter p xs) x) (λ e. false≢true (sym h.0 ∙ has-filter p xs x e))) (once-filter p xs h.1)

kept-at : (x n : ℕ) (xs ys : List ℕ) (b : Bool) → (b ≡ true → length xs ≡ length ys) → length xs ≤ suc (length ys)
    → length (x ∷ xs) ≤ suc (length (cond (not b) (x ∷ ys) ys))
kept-at x n xs ys true h k = let same = h refl in omega (arith, same)
kept-at x n xs ys false h k = omega (arith, k)

all-at : (x : ℕ) (xs ys : List ℕ) (b : Bool) → b ≡ false → length xs ≡ length ys → length (x ∷ xs) ≡ length (cond (not b) (x ∷ ys) ys)
all-at x xs ys true h k = absurd (false≢true (sym h))
all-at x xs ys false h k = omega (arith, k)

all-kept : (n : ℕ) (xs : List ℕ) → has xs n ≡ false → length xs ≡ length (filter (λ v. not (v == n)) xs)
all-kept n [] h = refl
all-kept n (x ∷ xs) h =
    all-at x xs (filter (λ v. not (v == n)) xs) (x == n) (lacks (x == n) (λ e. false≢true (sym h ∙ or_left (x == n) (has xs n) e)))
    (all-kept n xs (lacks (has xs n) (λ e. false≢true (sym h ∙ or_right (x == n) (has xs n) e))))

one-less : (n : ℕ) (xs : List ℕ) → EachOnce xs → length xs ≤ suc (length (filter (λ v. not (v == n)) xs))
one-less n [] h = omega arith
one-less n (x ∷ xs) h =
    kept-at x n xs (filter (λ v. not (v == n)) xs) (x == n)
    (λ e. all-kept n xs (subst (λ w. has xs w ≡ false) (eqb-true x n e) h.0)) (one-less n xs h.1)

differs : (v n : ℕ) → not (v == n) ≡ true → (v ≡ n → ⊥)
differs v n h e = false≢true (sym (ap not (eq-eqb v n e)) ∙ h)

pub few-below : (n : ℕ) (xs : List ℕ) → EachOnce xs → ((v : ℕ) → has xs v ≡ true → v < n) → length xs ≤ n
few-below zero [] once below = omega arith
few-below zero (x ∷ xs) once below = absurd (let none = below x (has_first x xs) in omega (arith, none))
few-below (suc n) xs once below =
    let rest = few-below n (filter (λ v. not (v == n)) xs) (once-filter (λ v. not (v == n)) xs once)
    (λ v h. let less = below v (has-filter (λ w. not (w == n)) xs v h) in
    elim (cases_eq v n) [
      | inl e ↦ absurd (differs v n (has-passes (λ w. not (w == n)) xs v h) e)
      | inr ne ↦ omega (arith, less, ne)
    ]) in
    let more = one-less n xs once in
    omega (arith, rest, more)

-- ---- the place of the last vertex of a node

module _ (node_of : ℕ → ℕ) where
  abbrev pub stands_in : ℕ → List ℕ → Bool
  stands_in n vs = list_any (λ v. node_of v == n) vs

  abbrev pub rank_in : List ℕ → ℕ → ℕ
  rank_in [] n = 0
  rank_in (v ∷ vs) n = cond (stands_in n vs) (suc (rank_in vs n)) 0

  bounded-at : (b : Bool) (rank size : ℕ) → (b ≡ true → rank < size) → cond b (suc rank) 0 < suc size
  bounded-at true rank size h = let less = h refl in omega (arith, less)
  bounded-at false rank size h = omega arith

  pub rank-bounded : (n : ℕ) (vs : List ℕ) → stands_in n vs ≡ true → rank_in vs n < length vs
  rank-bounded n [] h = absurd (false≢true h)
  rank-bounded n (v ∷ vs) h = bounded-at (stands_in n vs) (rank_in vs n) (length vs) (rank-bounded n vs)

  pub stands-by : (n v : ℕ) (vs : List ℕ) → has vs v ≡ true → node_of v ≡ n → stands_in n vs ≡ true
  stands-by n v [] h e = absurd (false≢true h)
  stands-by n v (w ∷ ws) h e = elim (has_cases w v ws h) [
    | inl same ↦ or_left (node_of w == n) (stands_in n ws) (eq-eqb (node_of w) n (ap node_of same ∙ e))
    | inr later ↦ or_right (node_of w == n) (stands_in n ws) (stands-by n v ws later e)
  ]

  found-at : (n w : ℕ) (ws : List ℕ) (b : Bool) → (node_of w == n) ≡ b
      → (list_any (λ v. node_of v == n) ws ≡ true → (v : ℕ) × (has ws v ≡ true) × (node_of v ≡ n))
      → (b || list_any (λ v. node_of v == n) ws) ≡ true → (v : ℕ) × (has (w ∷ ws) v ≡ true) × (node_of v ≡ n)
  found-at n w ws true e later h = (w, has_first w ws, eqb-true (node_of w) n e)
  found-at n w ws false e later h = let f = later h in (f.0, has_later w f.0 ws f.1, f.2)

  pub found-in : (n : ℕ) (vs : List ℕ) → stands_in n vs ≡ true → (v : ℕ) × (has vs v ≡ true) × (node_of v ≡ n)
  found-in n [] h = absurd (false≢true h)
  found-in n (w ∷ ws) h = found-at n w ws (node_of w == n) refl (found-in n ws) h

  falls-at : (b c : Bool) (rank other : ℕ) → c ≡ true → (b ≡ true → rank < other) → cond b (suc rank) 0 < cond c (suc other) 0
  falls-at b false rank other e h = absurd (false≢true e)
  falls-at true true rank other e h = let less = h refl in omega (arith, less)
  falls-at false true rank other e h = omega arith

  -- a vertex that reads from each vertex of a node stands behind them all
  pub rank-falls : (graph : Adjacency) (m reader : ℕ) (vs : List ℕ) → ReadsBack graph vs → has vs reader ≡ true → stands_in m vs ≡ true
      → ((v : ℕ) → has vs v ≡ true → node_of v ≡ m → has_edge graph v reader ≡ true) → rank_in vs m < rank_in vs (node_of reader)
  rank-falls graph m reader [] back r s edges = absurd (false≢true r)
  rank-falls graph m reader (first ∷ rest) back r s edges =
      let source = found-in m (first ∷ rest) s in
      let behind : has rest reader ≡ true = elim (has_cases first reader rest r) [
        | inl same ↦ absurd (false≢true (sym (back.0 source.0 source.1) ∙ ap (has_edge graph source.0) same ∙ edges source.0 source.1 source.2))
        | inr later ↦ later
      ] in
      falls-at (stands_in m rest) (stands_in (node_of reader) rest) (rank_in rest m) (rank_in rest (node_of reader))
      (stands-by (node_of reader) reader rest behind refl)
      (λ later. rank-falls graph m reader rest back.1 behind later (λ v h e. edges v (has_later first v rest h) e))

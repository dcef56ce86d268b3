-- Numbers that come twice in no list: how often one comes, in a list and in its parts.
use Rattle.std.proofs.Common.{◌≡◌, ℕ, ◌+◌, ◌==◌, Bool, true, false, not, cond, ◌||◌, List, [], ◌∷◌, ◌++◌, map, nat_lt, refl, ap, ◌∙◌, subst, arith}
use Rattle.std.specs.Prelude.{◌≤◌}
use Rattle.std.specs.List.{list_all}
use Rattle.std.proofs.lemmas.Bool.Decides.{nat_tests}
use Rattle.xf_def_forest.specs.declared.content.Node.{Node}
use Rattle.xf_def_forest.specs.Changes.{moved_to, shifted, without_tree}
use Rattle.xf_def_forest.specs.Forest.{below, first_tree, from_node, has_number, past, tree_of}
use Rattle.xf_def_forest.specs.WellFormed.{are_apart}
use Rattle.xf_law_invariants.proofs.TreeLemmas.Links.{and-true, both-true}

-- how often a number comes
abbrev pub times : ℕ → List Node → ℕ
times k [] = 0
times k (x ∷ xs) = cond (x.number == k) 1 0 + times k xs

pub times-append : (k : ℕ) (xs ys : List Node) → times k (xs ++ ys) ≡ times k xs + times k ys
times-append k [] ys = omega arith
times-append k (x ∷ xs) ys =
    ap (λ m. cond (x.number == k) 1 0 + m) (times-append k xs ys) ∙ sums (cond (x.number == k) 1 0) (times k xs) (times k ys)
  where
    sums : (a b c : ℕ) → a + (b + c) ≡ a + b + c
    sums a b c = omega arith

-- a number that does not stand
pub times-none : (k : ℕ) (xs : List Node) → has_number k xs ≡ false → times k xs ≡ 0
times-none k [] h = refl
times-none k (x ∷ xs) h = by (x.number == k) h (times-none k xs)
  where
    by : (b : Bool) → (b || has_number k xs) ≡ false → (has_number k xs ≡ false → times k xs ≡ 0) → cond b 1 0 + times k xs ≡ 0
    by true q rest = cc q
    by false q rest = let r : times k xs ≡ 0 = rest q in omega (arith, r)

pub none-times : (k : ℕ) (xs : List Node) → times k xs ≡ 0 → has_number k xs ≡ false
none-times k [] h = refl
none-times k (x ∷ xs) h = by (x.number == k) h (none-times k xs)
  where
    by : (b : Bool) → cond b 1 0 + times k xs ≡ 0 → (times k xs ≡ 0 → has_number k xs ≡ false) → (b || has_number k xs) ≡ false
    by true q rest = let no : ⊥ = omega (arith, q) in absurd no
    by false q rest = let r : times k xs ≡ 0 = omega (arith, q) in rest r

pub apart-times : (xs : List Node) → are_apart xs ≡ true → (k : ℕ) → times k xs ≤ 1
apart-times [] h k = omega arith
apart-times (x ∷ xs) h k = by (λ q. apart-times xs q k) (x.number == k) refl
  where
    parts : (not (has_number x.number xs) ≡ true) × (are_apart xs ≡ true)
    parts = and-true (not (has_number x.number xs)) (are_apart xs) h

    not-true : (b : Bool) → not b ≡ true → b ≡ false
    not-true true q = cc
    not-true false q = refl

    same : (m n : ℕ) → (m == n) ≡ true → m ≡ n
    same m n q = grind (arith, nat_tests, q)

    by : (are_apart xs ≡ true → times k xs ≤ 1) → (b : Bool) → (x.number == k) ≡ b → cond b 1 0 + times k xs ≤ 1
    by rest true e =
        let none : times k xs ≡ 0 = subst (λ j. times j xs ≡ 0) (same x.number k e) (times-none x.number xs (not-true (has_number x.number xs) parts.0)) in
        omega (arith, none)
    by rest false e = let r : times k xs ≤ 1 = rest parts.1 in omega (arith, r)

pub times-apart : (xs : List Node) → ((k : ℕ) → times k xs ≤ 1) → are_apart xs ≡ true
times-apart [] h = refl
times-apart (x ∷ xs) h =
    let self : (x.number == x.number) ≡ true = grind (arith, nat_tests) in
    let one : times x.number (x ∷ xs) ≡ 1 + times x.number xs = ap (λ b. cond b 1 0 + times x.number xs) self in
    let most : times x.number (x ∷ xs) ≤ 1 = h x.number in
    let none : has_number x.number xs ≡ false = none-times x.number xs (omega (arith, one, most)) in
    both-true (not (has_number x.number xs)) (are_apart xs) (ap not none) (times-apart xs (λ k. let all : cond (x.number == k) 1 0 + times k xs ≤ 1 = h k in omega (arith, all)))

-- ---- a tree and the rest

times-past : (k d : ℕ) (xs : List Node) → times k (past d xs) + times k (below d xs) ≡ times k xs
times-past k d [] = omega arith
times-past k d (y ∷ ys) = by (nat_lt d y.depth) (times-past k d ys)
  where
    by : (b : Bool) → times k (past d ys) + times k (below d ys) ≡ times k ys
        → times k (cond b (past d ys) (y ∷ ys)) + times k (cond b (y ∷ below d ys) []) ≡ cond (y.number == k) 1 0 + times k ys
    by true rest = omega (arith, rest)
    by false rest = omega arith

pub times-parts : (k n : ℕ) (xs : List Node) → times k (without_tree n xs) + times k (tree_of n xs) ≡ times k xs
times-parts k n [] = omega arith
times-parts k n (x ∷ xs) = by (x.number == n) (times-parts k n xs)
  where
    by : (b : Bool) → times k (without_tree n xs) + times k (tree_of n xs) ≡ times k xs
        → times k (cond b (past x.depth xs) (x ∷ without_tree n xs)) + times k (first_tree (cond b (x ∷ xs) (from_node n xs))) ≡ cond (x.number == k) 1 0 + times k xs
    by true rest = let parts = times-past k x.depth xs in omega (arith, parts)
    by false rest = omega (arith, rest)

times-shifted : (k from to : ℕ) (xs : List Node) → times k (map (shifted from to) xs) ≡ times k xs
times-shifted k from to [] = refl
times-shifted k from to (x ∷ xs) = ap (λ m. cond (x.number == k) 1 0 + m) (times-shifted k from to xs)

pub times-moved : (k to : ℕ) (xs : List Node) → times k (moved_to to xs) ≡ times k xs
times-moved k to [] = refl
times-moved k to (x ∷ xs) = times-shifted k x.depth to (x ∷ xs)

-- ---- what is so of each node

module _ (test : Node → Bool) where
  pub all-append : (xs ys : List Node) → list_all test xs ≡ true → list_all test ys ≡ true → list_all test (xs ++ ys) ≡ true
  all-append [] ys h k = k
  all-append (x ∷ xs) ys h k =
      let parts = and-true (test x) (list_all test xs) h in both-true (test x) (list_all test (xs ++ ys)) parts.0 (all-append xs ys parts.1 k)

  all-past : (d : ℕ) (xs : List Node) → list_all test xs ≡ true → list_all test (past d xs) ≡ true
  all-past d [] h = refl
  all-past d (y ∷ ys) h = by (nat_lt d y.depth) (all-past d ys (and-true (test y) (list_all test ys) h).1)
    where
      by : (b : Bool) → list_all test (past d ys) ≡ true → list_all test (cond b (past d ys) (y ∷ ys)) ≡ true
      by true rest = rest
      by false rest = h

  all-below : (d : ℕ) (xs : List Node) → list_all test xs ≡ true → list_all test (below d xs) ≡ true
  all-below d [] h = refl
  all-below d (y ∷ ys) h = by (nat_lt d y.depth) (all-below d ys parts.1)
    where
      parts : (test y ≡ true) × (list_all test ys ≡ true)
      parts = and-true (test y) (list_all test ys) h

      by : (b : Bool) → list_all test (below d ys) ≡ true → list_all test (cond b (y ∷ below d ys) []) ≡ true
      by true rest = both-true (test y) (list_all test (below d ys)) parts.0 rest
      by false rest = refl

  pub all-without : (n : ℕ) (xs : List Node) → list_all test xs ≡ true → list_all test (without_tree n xs) ≡ true
  all-without n [] h = refl
  all-without n (x ∷ xs) h = by (x.number == n) (all-without n xs parts.1)
    where
      parts : (test x ≡ true) × (list_all test xs ≡ true)
      parts = and-true (test x) (list_all test xs) h

      by : (b : Bool) → list_all test (without_tree n xs) ≡ true → list_all test (cond b (past x.depth xs) (x ∷ without_tree n xs)) ≡ true
      by true rest = all-past x.depth xs parts.1
      by false rest = both-true (test x) (list_all test (without_tree n xs)) parts.0 rest

  pub all-tree : (n : ℕ) (xs : List Node) → list_all test xs ≡ true → list_all test (tree_of n xs) ≡ true
  all-tree n [] h = refl
  all-tree n (x ∷ xs) h = by (x.number == n) (all-tree n xs parts.1)
    where
      parts : (test x ≡ true) × (list_all test xs ≡ true)
      parts = and-true (test x) (list_all test xs) h

      by : (b : Bool) → list_all test (tree_of n xs) ≡ true → list_all test (first_tree (cond b (x ∷ xs) (from_node n xs))) ≡ true
      by true rest = both-true (test x) (list_all test (below x.depth xs)) parts.0 (all-below x.depth xs parts.1)
      by false rest = rest

  -- where the test goes with a shift
  all-shifted : (from to : ℕ) → ((x : Node) → test x ≡ true → test (shifted from to x) ≡ true) → (xs : List Node) → list_all test xs ≡ true → list_all test (map (shifted from to) xs) ≡ true
  all-shifted from to goes [] h = refl
  all-shifted from to goes (x ∷ xs) h =
      let parts = and-true (test x) (list_all test xs) h in
      both-true (test (shifted from to x)) (list_all test (map (shifted from to) xs)) (goes x parts.0) (all-shifted from to goes xs parts.1)

  pub all-moved : (to : ℕ) → ((from : ℕ) (x : Node) → test x ≡ true → test (shifted from to x) ≡ true) → (xs : List Node) → list_all test xs ≡ true → list_all test (moved_to to xs) ≡ true
  all-moved to goes [] h = refl
  all-moved to goes (x ∷ xs) h = all-shifted x.depth to (goes x.depth) (x ∷ xs) h

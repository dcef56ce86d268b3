-- A forest as trees: each node with the trees below it and the trees that follow it.
use Rattle.std.proofs.Common.{◌≡◌, ℕ, zero, suc, ◌+◌, ◌==◌, Bool, true, false, cond, ◌||◌, List, [], ◌∷◌, ◌++◌, nat_lt, refl, sym, ap, ◌∙◌, subst, inl, inr, arith}
use Rattle.std.specs.Prelude.{⊤, nat_le, if◌then◌else◌}
use Rattle.std.proofs.lemmas.Bool.{cases_Bool}
use Rattle.std.proofs.lemmas.Bool.Decides.{nat_tests}
use Rattle.xf_def_forest.specs.declared.content.Node.{Node}
use Rattle.xf_def_forest.specs.declared.content.Content.{Content}
use Rattle.xf_def_forest.specs.Forest.{is_attribute, is_text}
use Rattle.xf_def_forest.specs.WellFormed.{reach, are_depths_from, are_depths}
use Rattle.xf_def_forest.proofs.BackLaws.{and-true}

pub data Trees : Type 0 where
  none : Trees
  -- a node with its number, what is below it, and what follows it
  tree : ℕ → Content → Trees → Trees → Trees

-- the nodes of trees whose tops have this depth, before others
abbrev pub onto : ℕ → Trees → List Node → List Node
onto d none ys = ys
onto d (tree n c k r) ys = record { number = n; depth = d; content = c } ∷ onto (suc d) k (onto d r ys)

abbrev pub followed : Trees → Trees → Trees
followed none s = s
followed (tree n c k r) s = tree n c k (followed r s)

-- how often a number is there
abbrev pub times : ℕ → Trees → ℕ
times n none = 0
times n (tree m c k r) = (if m == n then 1 else 0) + (times n k + times n r)

-- the first node is less deep
abbrev pub StopsAt : ℕ → List Node → Type 0
StopsAt d [] = ⊤
StopsAt d (y ∷ ys) = nat_lt y.depth d ≡ true

pub stops-more : (d : ℕ) (ys : List Node) → StopsAt d ys → StopsAt (suc d) ys
stops-more d [] h = tt
stops-more d (y ∷ ys) h = grind (arith, nat_tests, h)

pub stops-onto : (d : ℕ) (t : Trees) (ys : List Node) → StopsAt d ys → StopsAt (suc d) (onto d t ys)
stops-onto d none ys h = stops-more d ys h
stops-onto d (tree n c k r) ys h = grind (arith, nat_tests)

pub onto-followed : (d : ℕ) (t s : Trees) (ys : List Node) → onto d (followed t s) ys ≡ onto d t (onto d s ys)
onto-followed d none s ys = refl
onto-followed d (tree n c k r) s ys = ap (λ l. record { number = n; depth = d; content = c } ∷ onto (suc d) k l) (onto-followed d r s ys)

pub onto-append : (d : ℕ) (t : Trees) (ys zs : List Node) → onto d t ys ++ zs ≡ onto d t (ys ++ zs)
onto-append d none ys zs = refl
onto-append d (tree n c k r) ys zs =
    ap (λ l. record { number = n; depth = d; content = c } ∷ l) (onto-append (suc d) k (onto d r ys) zs ∙ ap (onto (suc d) k) (onto-append d r ys zs))

pub times-followed : (n : ℕ) (t s : Trees) → times n (followed t s) ≡ times n t + times n s
times-followed n none s = omega arith
times-followed n (tree m c k r) s = let h : times n (followed r s) ≡ times n r + times n s = times-followed n r s in omega arith

-- ---- one list has one reading

not_less : (d : ℕ) → nat_lt d d ≡ true → ⊥
not_less d h = grind (arith, nat_tests, h)

pub onto-inj : (d : ℕ) (t s : Trees) (ys zs : List Node) → StopsAt d ys → StopsAt d zs → onto d t ys ≡ onto d s zs → (t ≡ s) × (ys ≡ zs)
onto-inj d none none ys zs p q e = (refl, e)
onto-inj d none (tree n c k r) ys zs p q e = absurd (not_less d (subst (StopsAt d) e p))
onto-inj d (tree n c k r) none ys zs p q e = absurd (not_less d (subst (StopsAt d) (sym e) q))
onto-inj d (tree n c k r) (tree m b j s) ys zs p q e =
    let head : ◌≡◌ {A = Node} (record { number = n; depth = d; content = c }) (record { number = m; depth = d; content = b }) = cc e in
    let number : n ≡ m = ap (λ x. x.number) head in
    let content : c ≡ b = ap (λ x. x.content) head in
    let tail : onto (suc d) k (onto d r ys) ≡ onto (suc d) j (onto d s zs) = cc e in
    let one = onto-inj (suc d) k j (onto d r ys) (onto d s zs) (stops-onto d r ys p) (stops-onto d s zs q) tail in
    let two = onto-inj d r s ys zs p q one.1 in
    (ap (λ x. tree x c k r) number ∙ ap (λ x. tree m x k r) content ∙ ap (λ x. tree m b x r) one.0 ∙ ap (tree m b j) two.0, two.1)

-- ---- each forest has a reading

data Levels : ℕ → List Node → Type 0 where
  ground : (t : Trees) → Levels zero (onto zero t [])
  above : (d : ℕ) (t : Trees) {ys : List Node} → Levels d ys → Levels (suc d) (onto (suc d) t ys)

under : (n d : ℕ) (c : Content) (k : Trees) {ys : List Node} → Levels d ys → Levels d (record { number = n; depth = d; content = c } ∷ onto (suc d) k ys)
under n _ c k (ground t) = ground (tree n c k t)
under n _ c k (above e t rest) = above e (tree n c k t) rest

push : (n d : ℕ) (c : Content) {xs : List Node} → Levels (suc d) xs → Levels d (record { number = n; depth = d; content = c } ∷ xs)
push n _ c (above d k rest) = under n d c k rest

raised : (most d : ℕ) {ys : List Node} → nat_le d most ≡ true → Levels d ys → Levels most ys
raised zero d {ys = ys} h l = subst (λ e. Levels e ys) (grind (arith, nat_tests, h)) l
raised (suc most) d {ys = ys} h l =
    elim (cases_Bool (d == suc most)) [
      | inl e ↦ subst (λ k. Levels k ys) (same e) l
      | inr e ↦ above most none (raised most d (less e) l)
    ]
  where
    same : (d == suc most) ≡ true → d ≡ suc most
    same e = grind (arith, nat_tests, e)

    less : (d == suc most) ≡ false → nat_le d most ≡ true
    less e = grind (arith, nat_tests, e, h)

parsed : (most : ℕ) (xs : List Node) → are_depths_from most xs ≡ true → Levels most xs
parsed most [] h = raised most zero (grind (arith, nat_tests)) (ground none)
parsed most (x ∷ xs) h =
    let parts = and-true (nat_le x.depth most) (are_depths_from (reach x) xs) h in
    raised most x.depth parts.0 (push x.number x.depth x.content (by (is_attribute x.content || is_text x.content) (λ m. parsed m xs) parts.1))
  where
    by : (b : Bool) → ((m : ℕ) → are_depths_from m xs ≡ true → Levels m xs) → are_depths_from (cond b x.depth (suc x.depth)) xs ≡ true → Levels (suc x.depth) xs
    by true next h = above x.depth none (next x.depth h)
    by false next h = next (suc x.depth) h

pub record Reads (nodes : List Node) : Type 0 where
  pub trees : Trees
  pub whole : nodes ≡ onto 0 trees []

read : {xs : List Node} → Levels zero xs → Reads xs
read (ground t) = record { trees = t; whole = refl }

pub reading : (xs : List Node) → are_depths xs ≡ true → Reads xs
reading xs h = read (parsed 0 xs h)

-- What the trees of a forest keep: attributes and texts have nothing below them, and a root has nothing above.
use Rattle.std.proofs.Common.{◌≡◌, ℕ, suc, ◌+◌, ◌==◌, Bool, true, false, not, cond, ◌&&◌, ◌||◌, List, [], ◌∷◌, refl, subst, arith}
use Rattle.std.specs.Prelude.{⊤, nat_le, if◌then◌else◌}
use Rattle.std.proofs.lemmas.Bool.Decides.{nat_tests}
use Rattle.xf_def_forest.specs.declared.content.Node.{Node}
use Rattle.xf_def_forest.specs.declared.content.Content.{Content}
use Rattle.xf_def_forest.specs.Forest.{is_root, is_attribute, is_text}
use Rattle.xf_def_forest.specs.WellFormed.{reach, are_depths_from, are_depths, are_tops}
use Rattle.xf_def_forest.proofs.BackLaws.{and-true, false-true}
use Rattle.xf_law_forests.proofs.RollbackLemmas.Trees.{Trees, none, tree, onto, times, followed}

-- what has nothing below it
abbrev pub is_leaf : Content → Bool
is_leaf c = is_attribute c || is_text c

-- inside is true below a node
abbrev pub Sound : Bool → Trees → Type 0
Sound inside none = ⊤
Sound inside (tree n c k r) = (is_leaf c ≡ true → k ≡ none) × ((is_root c && inside) ≡ false) × Sound true k × Sound inside r

pub sound-followed : (inside : Bool) (t s : Trees) → Sound inside t → Sound inside s → Sound inside (followed t s)
sound-followed inside none s h k = k
sound-followed inside (tree n c j r) s h k = (h.0, h.1, h.2, sound-followed inside r s h.3 k)

-- ---- from the list

abbrev Flat : Trees → Type 0
Flat none = ⊤
Flat (tree n c k r) = (is_leaf c ≡ true → k ≡ none) × Flat k × Flat r

abbrev Inner : Bool → Trees → Type 0
Inner inside none = ⊤
Inner inside (tree n c k r) = ((is_root c && inside) ≡ false) × Inner true k × Inner inside r

sound-of : (inside : Bool) (t : Trees) → Flat t → Inner inside t → Sound inside t
sound-of inside none f i = tt
sound-of inside (tree n c k r) f i = (f.0, i.0, sound-of true k f.1 i.1, sound-of inside r f.2 i.2)

-- of trees and what follows them
record Left (t : Trees) (ys : List Node) : Type 0 where
  flat : Flat t
  most : ℕ
  rest : are_depths_from most ys ≡ true

nothing_below : (d : ℕ) (k : Trees) (ys : List Node) → are_depths_from d (onto (suc d) k ys) ≡ true → k ≡ none
nothing_below d none ys h = refl
nothing_below d (tree n c k r) ys h =
    let deep : nat_le (suc d) d ≡ true = (and-true (nat_le (suc d) d) (are_depths_from (reach (record { number = n; depth = suc d; content = c })) (onto (suc (suc d)) k (onto (suc d) r ys))) h).0 in
    let no : ⊥ = grind (arith, nat_tests, deep) in absurd no

flat-onto : (d most : ℕ) (t : Trees) (ys : List Node) → are_depths_from most (onto d t ys) ≡ true → Left t ys
flat-onto d most none ys h = record { flat = tt; most = most; rest = h }
flat-onto d most (tree n c k r) ys h =
    let later = (and-true (nat_le d most) (are_depths_from (reach (record { number = n; depth = d; content = c })) (onto (suc d) k (onto d r ys))) h).1 in
    let one = flat-onto (suc d) (reach (record { number = n; depth = d; content = c })) k (onto d r ys) later in
    let two = flat-onto d one.most r ys one.rest in
    record {
      flat = (λ e. nothing_below d k (onto d r ys) (subst (λ b. are_depths_from (cond b d (suc d)) (onto (suc d) k (onto d r ys)) ≡ true) e later), one.flat, two.flat);
      most = two.most;
      rest = two.rest;
    }

-- what stands at this depth is below a node, or is a top
abbrev is_inside : ℕ → Bool
is_inside d = not (d == 0)

record Tops (inside : Bool) (t : Trees) (ys : List Node) : Type 0 where
  inner : Inner inside t
  rest : are_tops ys ≡ true

tops-onto : (d : ℕ) (t : Trees) (ys : List Node) → are_tops (onto d t ys) ≡ true → Tops (is_inside d) t ys
tops-onto d none ys h = record { inner = tt; rest = h }
tops-onto d (tree n c k r) ys h =
    let head = and-true (not (is_root c) || (d == 0)) (are_tops (onto (suc d) k (onto d r ys))) h in
    let one = tops-onto (suc d) k (onto d r ys) head.1 in
    let two = tops-onto d r ys one.rest in
    let deep : is_inside (suc d) ≡ true = grind (arith, nat_tests) in
    record { inner = (by (is_root c) (d == 0) head.0, subst (λ b. Inner b k) deep one.inner, two.inner); rest = two.rest }
  where
    by : (a b : Bool) → (not a || b) ≡ true → (a && not b) ≡ false
    by true true h = refl
    by true false h = absurd (false-true h)
    by false b h = refl

pub sound-trees : (t : Trees) → are_depths (onto 0 t []) ≡ true → are_tops (onto 0 t []) ≡ true → Sound false t
sound-trees t depths tops =
    let zero_ : is_inside 0 ≡ false = grind (arith, nat_tests) in
    sound-of false t (flat-onto 0 0 t [] depths).flat (subst (λ b. Inner b t) zero_ (tops-onto 0 t [] tops).inner)

-- ---- numbers

abbrev pub node_times : ℕ → List Node → ℕ
node_times n [] = 0
node_times n (x ∷ xs) = (if x.number == n then 1 else 0) + node_times n xs

pub times-onto : (n d : ℕ) (t : Trees) (ys : List Node) → node_times n (onto d t ys) ≡ times n t + node_times n ys
times-onto n d none ys = omega arith
times-onto n d (tree m c k r) ys =
    let one : node_times n (onto (suc d) k (onto d r ys)) ≡ times n k + node_times n (onto d r ys) = times-onto n (suc d) k (onto d r ys) in
    let two : node_times n (onto d r ys) ≡ times n r + node_times n ys = times-onto n d r ys in
    omega arith

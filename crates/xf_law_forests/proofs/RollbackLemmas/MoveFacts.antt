-- Trees cut off and put below a node: numbers, tests and soundness, and what is undone by cutting off.
use Rattle.std.proofs.Common.{◌≡◌, ℕ, zero, suc, ◌+◌, ◌==◌, Bool, true, false, cond, ◌||◌, refl, sym, ap, ◌∙◌, inl, inr, arith}
use Rattle.std.specs.Prelude.{◌≤◌, if◌then◌else◌}
use Rattle.std.proofs.lemmas.Bool.{cases_Bool}
use Rattle.std.proofs.lemmas.Bool.Decides.{nat_tests}
use Rattle.xf_def_forest.specs.declared.content.Content.{Content}
use Rattle.xf_def_forest.specs.Forest.{is_attribute}
use Rattle.xf_def_forest.specs.Changes.{at_place}
use Rattle.xf_law_forests.proofs.RollbackLemmas.Trees.{Trees, none, tree, followed, times, times-followed}
use Rattle.xf_law_forests.proofs.RollbackLemmas.TreeTexts.{Where, here, inside, later, where_is}
use Rattle.xf_law_forests.proofs.RollbackLemmas.TreeMoved.{Moved, same, swap, under, through, some, moved-times}
use Rattle.xf_law_forests.proofs.RollbackLemmas.TreeFacts.{some-followed}
use Rattle.xf_law_forests.proofs.RollbackLemmas.TreeMoves.{removed, found, found-absent}
use Rattle.xf_law_forests.proofs.RollbackLemmas.TreePlaces.{inserted, beside, with_tree, changed, changed-absent}

-- ---- in another order

pub moved-removed : (n : ℕ) {a b : Trees} → Moved a b → Moved (removed n a) (removed n b)
moved-removed n (same t) = same (removed n t)
moved-removed n (swap {n = x} {m = y} {c = c} {d = d} {k = k} {j = j} {r = r} e f) = by (x == n) (y == n)
  where
    by : (p q : Bool) → Moved (cond p (cond q (removed n r) (tree y d (removed n j) (removed n r))) (tree x c (removed n k) (cond q (removed n r) (tree y d (removed n j) (removed n r)))))
        (cond q (cond p (removed n r) (tree x c (removed n k) (removed n r))) (tree y d (removed n j) (cond p (removed n r) (tree x c (removed n k) (removed n r)))))
    by true true = same (removed n r)
    by true false = same (tree y d (removed n j) (removed n r))
    by false true = same (tree x c (removed n k) (removed n r))
    by false false = swap e f
moved-removed n (under m c k {r = r} {s = s} h) = by (m == n) (moved-removed n h)
  where
    by : (p : Bool) → Moved (removed n r) (removed n s) → Moved (cond p (removed n r) (tree m c (removed n k) (removed n r))) (cond p (removed n s) (tree m c (removed n k) (removed n s)))
    by true h = h
    by false h = under m c (removed n k) h
moved-removed n (through g h) = through (moved-removed n g) (moved-removed n h)

part-none : (n m : ℕ) (c : Content) (k : Trees) → (if m == n then 1 else 0) + times n k ≡ 0 → (if m == n then tree m c k none else found n k) ≡ none
part-none n m c k h =
    elim (cases_Bool (m == n)) [
      | inl e ↦ absurd (omega (arith, (rw e at h)))
      | inr e ↦ rw e (found-absent n k (let g : 0 + times n k ≡ 0 = rw e at h in omega (arith, g)))
    ]

pub moved-found : (n : ℕ) {a b : Trees} → Moved a b → times n a ≤ 1 → found n a ≡ found n b
moved-found n (same t) once = refl
moved-found n (swap {n = x} {m = y} {c = c} {d = d} {k = k} {j = j} {r = r} e f) once =
    elim (cases_Bool (((if x == n then 1 else 0) + times n k) == 0)) [
      | inl z ↦
          let p : (if x == n then 1 else 0) + times n k ≡ 0 = grind (arith, nat_tests, z) in
          ap (λ s. followed s (followed (if y == n then tree y d j none else found n j) (found n r))) (part-none n x c k p)
          ∙ ap (λ s. followed (if y == n then tree y d j none else found n j) (followed s (found n r))) (sym (part-none n x c k p))
      | inr z ↦
          let q : (if y == n then 1 else 0) + times n j ≡ 0 = grind (arith, nat_tests, z, once) in
          ap (λ s. followed (if x == n then tree x c k none else found n k) (followed s (found n r))) (part-none n y d j q)
          ∙ ap (λ s. followed s (followed (if x == n then tree x c k none else found n k) (found n r))) (sym (part-none n y d j q))
    ]
moved-found n (under m c k {r = r} h) once = ap (followed (if m == n then tree m c k none else found n k)) (moved-found n h (omega (arith, once)))
moved-found n (through g h) once = moved-found n g once ∙ moved-found n h (let e = moved-times n g in omega (arith, e, once))

pub moved-changed : (n : ℕ) (f : Trees → Trees) {a b : Trees} → Moved a b → Moved (changed n f a) (changed n f b)
moved-changed n f (same t) = same (changed n f t)
moved-changed n f (swap e g) = swap e g
moved-changed n f (under m c k h) = under m c (if m == n then f k else changed n f k) (moved-changed n f h)
moved-changed n f (through g h) = through (moved-changed n f g) (moved-changed n f h)

-- ---- numbers and tests

pub removed-times : (p n : ℕ) (t : Trees) → times p (removed n t) + times p (found n t) ≡ times p t
removed-times p n none = omega arith
removed-times p n (tree m c k r) = by (m == n) (removed-times p n k) (removed-times p n r)
  where
    by : (b : Bool) → times p (removed n k) + times p (found n k) ≡ times p k → times p (removed n r) + times p (found n r) ≡ times p r
        → times p (cond b (removed n r) (tree m c (removed n k) (removed n r))) + times p (followed (cond b (tree m c k none) (found n k)) (found n r)) ≡ (if m == p then 1 else 0) + (times p k + times p r)
    by true one two = omega (arith, two)
    by false one two = let e : times p (followed (found n k) (found n r)) ≡ times p (found n k) + times p (found n r) = times-followed p (found n k) (found n r) in omega (arith, one, two, e)

pub removed-none : (n : ℕ) (t : Trees) → times n (removed n t) ≡ 0
removed-none n none = refl
removed-none n (tree m c k r) =
    elim (cases_Bool (m == n)) [
      | inl e ↦ rw e (removed-none n r)
      | inr e ↦ let a = removed-none n k in let b = removed-none n r in rw e (rw e (omega (arith, a, b)))
    ]

or-mixed : (a b c d e : Bool) → ((a || (b || c)) || (d || e)) ≡ (a || ((b || d) || (c || e)))
or-mixed true b c d e = refl
or-mixed false true c d e = refl
or-mixed false false true true e = refl
or-mixed false false true false e = refl
or-mixed false false false d e = refl

or-first : (a b c d : Bool) → (a || ((b || (c || false)) || d)) ≡ (b || (c || (a || d)))
or-first true true c d = refl
or-first true false true d = refl
or-first true false false d = refl
or-first false true c d = refl
or-first false false true d = refl
or-first false false false d = refl

pub removed-some : (p : ℕ → Content → Bool) (n : ℕ) (t : Trees) → (some p (removed n t) || some p (found n t)) ≡ some p t
removed-some p n none = refl
removed-some p n (tree m c k r) = by (m == n) (removed-some p n k) (removed-some p n r)
  where
    by : (b : Bool) → (some p (removed n k) || some p (found n k)) ≡ some p k → (some p (removed n r) || some p (found n r)) ≡ some p r
        → (some p (cond b (removed n r) (tree m c (removed n k) (removed n r))) || some p (followed (cond b (tree m c k none) (found n k)) (found n r))) ≡ (p m c || (some p k || some p r))
    by true one two = first (some p (removed n r)) (p m c) (some p k) (some p (found n r)) ∙ ap (λ b. p m c || (some p k || b)) two
      where
        first : (a b c d : Bool) → (a || (b || (c || d))) ≡ (b || (c || (a || d)))
        first true true c d = refl
        first true false true d = refl
        first true false false d = refl
        first false b c d = refl
    by false one two =
        ap (λ b. (p m c || (some p (removed n k) || some p (removed n r))) || b) (some-followed p (found n k) (found n r))
        ∙ or-mixed (p m c) (some p (removed n k)) (some p (removed n r)) (some p (found n k)) (some p (found n r))
        ∙ ap (λ b. p m c || (b || (some p (removed n r) || some p (found n r)))) one ∙ ap (λ b. p m c || (some p k || b)) two

-- ---- what is put below a node

inserted-times : (p place : ℕ) (s k : Trees) → times p (inserted place s k) ≡ times p k + times p s
inserted-times p place s none = omega arith
inserted-times p place s (tree m c k r) =
    elim (cases_Bool (is_attribute c)) [
      | inl e ↦ let h : times p (inserted place s r) ≡ times p r + times p s = inserted-times p place s r in rw e (omega (arith, h))
      | inr e ↦ rw e (at place (λ left. inserted-times p left s r))
    ]
  where
    at : (place : ℕ) → ((left : ℕ) → times p (inserted left s r) ≡ times p r + times p s)
        → times p (at_place place (followed s (tree m c k r)) (λ left. tree m c k (inserted left s r))) ≡ ((if m == p then 1 else 0) + (times p k + times p r)) + times p s
    at zero h = let e : times p (followed s (tree m c k r)) ≡ times p s + times p (tree m c k r) = times-followed p s (tree m c k r) in omega (arith, e)
    at (suc left) h = let e = h left in omega (arith, e)

beside-times : (p place : ℕ) (s k : Trees) → times p (beside place s k) ≡ times p k + times p s
beside-times p place s none = omega arith
beside-times p place s (tree m c k r) = by (is_attribute c) (at place (λ left. beside-times p left s r)) before
  where
    before : times p (followed s (tree m c k r)) ≡ ((if m == p then 1 else 0) + (times p k + times p r)) + times p s
    before = let e : times p (followed s (tree m c k r)) ≡ times p s + times p (tree m c k r) = times-followed p s (tree m c k r) in omega (arith, e)

    at : (place : ℕ) → ((left : ℕ) → times p (beside left s r) ≡ times p r + times p s)
        → times p (at_place place (followed s (tree m c k r)) (λ left. tree m c k (beside left s r))) ≡ ((if m == p then 1 else 0) + (times p k + times p r)) + times p s
    at zero h = before
    at (suc left) h = let e = h left in omega (arith, e)

    by : (b : Bool) → times p (at_place place (followed s (tree m c k r)) (λ left. tree m c k (beside left s r))) ≡ ((if m == p then 1 else 0) + (times p k + times p r)) + times p s
        → times p (followed s (tree m c k r)) ≡ ((if m == p then 1 else 0) + (times p k + times p r)) + times p s
        → times p (cond b (at_place place (followed s (tree m c k r)) (λ left. tree m c k (beside left s r))) (followed s (tree m c k r))) ≡ ((if m == p then 1 else 0) + (times p k + times p r)) + times p s
    by true one two = one
    by false one two = two

with-times : (p place : ℕ) (s k : Trees) → times p (with_tree place s k) ≡ times p k + times p s
with-times p place none k = omega arith
with-times p place (tree n c j r) k = by (is_attribute c)
  where
    by : (b : Bool) → times p (cond b (beside place (tree n c j r) k) (inserted place (tree n c j r) k)) ≡ times p k + times p (tree n c j r)
    by true = beside-times p place (tree n c j r) k
    by false = inserted-times p place (tree n c j r) k

pub changed-times : (p n place : ℕ) (s t : Trees) → times n t ≡ 1 → times p (changed n (with_tree place s) t) ≡ times p t + times p s
changed-times p n place s none once = absurd (omega (arith, once))
changed-times p n place s (tree m c k r) once = by (where_is n m c k r once) (λ q. changed-times p n place s k q) (λ q. changed-times p n place s r q)
  where
    by : Where n m k r → (times n k ≡ 1 → times p (changed n (with_tree place s) k) ≡ times p k + times p s) → (times n r ≡ 1 → times p (changed n (with_tree place s) r) ≡ times p r + times p s)
        → times p (changed n (with_tree place s) (tree m c k r)) ≡ times p (tree m c k r) + times p s
    by (here e q z) one two =
        let a = with-times p place s k in
        let b : times p (changed n (with_tree place s) r) ≡ times p r = ap (times p) (changed-absent n (with_tree place s) r z) in
        rw e (omega (arith, a, b))
    by (inside e q z) one two =
        let a = one q in
        let b : times p (changed n (with_tree place s) r) ≡ times p r = ap (times p) (changed-absent n (with_tree place s) r z) in
        rw e (omega (arith, a, b))
    by (later e q z) one two =
        let a : times p (changed n (with_tree place s) k) ≡ times p k = ap (times p) (changed-absent n (with_tree place s) k q) in
        let b = two z in
        rw e (omega (arith, a, b))

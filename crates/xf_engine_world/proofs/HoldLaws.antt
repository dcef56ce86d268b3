-- A root has its place among the roots.
use Rattle.std.proofs.Common.{◌≡◌, ℕ, zero, suc, ◌<◌, ◌==◌, Bool, true, false, cond, List, [], ◌∷◌, Option, Some, None, option_map, refl, sym, ap, ◌∙◌, arith}
use Rattle.std.proofs.lemmas.Bool.Decides.{nat_tests}
use Rattle.xf_def_forest.specs.declared.content.Node.{Node}
use Rattle.xf_def_forest.specs.Changes.{root_of}
use Rattle.xf_def_forest.specs.Forest.{has_number, is_root}
use Rattle.xf_def_forest.specs.Order.{instance_of}
use Rattle.xf_def_forest.specs.Visit.{Visit, above_in, last_of, top_of, visits}
use Rattle.xf_def_forest.proofs.BackLaws.{or-false}
use Rattle.xf_def_forest.proofs.OrderLaws.{seen-has}
use Rattle.xf_def_xpath.proofs.VisitFacts.{absent}
use Rattle.xf_def_machine.specs.StateText.{is_place}

some-same : {X : Type 0} {a b : X} → Some a ≡ Some b → a ≡ b
some-same i = cc i

later : (o : Option ℕ) (k : ℕ) → option_map suc o ≡ Some k → (j : ℕ) × (o ≡ Some j) × (k ≡ suc j)
later None k i = cc i
later (Some j) k i = (j, refl, sym (some-same i))

-- where no root stands at a place, those that stand are before it
within : (n k count : ℕ) (xs : List Node) → instance_of n xs ≡ Some k → root_of count xs ≡ None → k < count
within n k count [] e none = cc e
within n k zero (x ∷ xs) e none = by (is_root x.content) e none (λ i j. within n k zero xs i j)
  where
    by : (b : Bool) → cond b (cond (x.number == n) (Some 0) (option_map suc (instance_of n xs))) (instance_of n xs) ≡ Some k
        → cond b (Some x.number) (root_of zero xs) ≡ None → (instance_of n xs ≡ Some k → root_of zero xs ≡ None → k < zero) → k < zero
    by false i j more = more i j
    by true i j more = cc j
within n k (suc count) (x ∷ xs) e none = by (is_root x.content) e none (λ j i h. within n j count xs i h) (λ i h. within n k (suc count) xs i h)
  where
    here : (c : Bool) → cond c (Some 0) (option_map suc (instance_of n xs)) ≡ Some k → root_of count xs ≡ None
        → ((j : ℕ) → instance_of n xs ≡ Some j → root_of count xs ≡ None → j < count) → k < suc count
    here true i h more = let z : 0 ≡ k = some-same i in omega (arith, z)
    here false i h more =
        let (m, is, next) = later (instance_of n xs) k i in
        let l : m < count = more m is h in
        omega (arith, l, next)

    by : (b : Bool) → cond b (cond (x.number == n) (Some 0) (option_map suc (instance_of n xs))) (instance_of n xs) ≡ Some k
        → cond b (root_of count xs) (root_of (suc count) xs) ≡ None
        → ((j : ℕ) → instance_of n xs ≡ Some j → root_of count xs ≡ None → j < count) → (instance_of n xs ≡ Some k → root_of (suc count) xs ≡ None → k < suc count) → k < suc count
    by false i h one other = other i h
    by true i h one other = here (x.number == n) i h one

same-place : (k : ℕ) → is_place k (Some k) ≡ true
same-place k = grind (arith, nat_tests)

-- a root that is none of those before this place is none, where no root stands there
pub none-held : (n count : ℕ) (xs : List Node) → root_of count xs ≡ None → ((place : ℕ) → place < count → is_place place (instance_of n xs) ≡ false) → instance_of n xs ≡ None
none-held n count xs none h = by (instance_of n xs) refl
  where
    by : (o : Option ℕ) → instance_of n xs ≡ o → o ≡ None
    by None e = refl
    by (Some k) e = cc (sym (same-place k) ∙ sym (ap (is_place k) e) ∙ h k (within n k count xs e none))

not-root : (n : ℕ) (xs : List Node) → has_number n xs ≡ false → instance_of n xs ≡ None
not-root n [] h = refl
not-root n (x ∷ xs) h = by (is_root x.content) (not-root n xs ps.1)
  where
    ps : ((x.number == n) ≡ false) × (has_number n xs ≡ false)
    ps = or-false (x.number == n) (has_number n xs) h

    by : (b : Bool) → instance_of n xs ≡ None → cond b (cond (x.number == n) (Some 0) (option_map suc (instance_of n xs))) (instance_of n xs) ≡ None
    by false more = more
    by true more = ap (λ c. cond c (Some 0) (option_map suc (instance_of n xs))) ps.0 ∙ ap (option_map suc) more

-- a node that does not stand is in no instance
pub gone-held : (n : ℕ) (nodes : List Node) → has_number n nodes ≡ false → instance_of (top_of n (visits nodes)) nodes ≡ None
gone-held n nodes h =
    ap (λ (o : Option Visit). instance_of (last_of n (above_in o)) nodes) (absent n (visits nodes) (seen-has n [] nodes ∙ h)) ∙ not-root n nodes h

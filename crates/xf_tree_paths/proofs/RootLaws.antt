-- The roots of a forest by their places among the instances.
use Rattle.std.proofs.Common.{◌≡◌, ◌≤◌, ◌<◌, ◌+◌, ℕ, zero, suc, ◌==◌, Bool, true, false, not, cond, ◌&&◌, List, [], ◌∷◌, Option, Some, None, option_map, refl, sym, ap, ◌∙◌, arith}
use Rattle.std.proofs.Math.Dec.{ltb}
use Rattle.std.proofs.lemmas.Bool.{eq-eqb, eqb-true, ltb-true, ltb-false}
use Rattle.std.proofs.lemmas.Bool.Decides.{nat_tests}
use Rattle.xf_def_forest.specs.declared.content.Node.{Node}
use Rattle.xf_def_forest.specs.Forest.{is_root, has_number}
use Rattle.xf_def_forest.specs.Order.{instance_of}
use Rattle.xf_def_forest.specs.Changes.{root_of}
use Rattle.xf_def_forest.specs.WellFormed.{are_apart}
use Rattle.xf_def_forest.proofs.BackLaws.{and-true, not-true}
use Rattle.xf_def_forest.proofs.LiveLaws.{root-live}
use Rattle.xf_def_xpath.proofs.VisitFacts.{turned, no, some-same, none-some}
use Rattle.xf_def_machine.specs.StateText.{is_place}

lesser : (m n : ℕ) → (suc m == suc n) ≡ (m == n)
lesser m n = grind (arith, nat_tests)

place-suc : (k : ℕ) (o : Option ℕ) → is_place (suc k) (option_map suc o) ≡ is_place k o
place-suc k None = refl
place-suc k (Some j) = lesser k j

place-zero : (o : Option ℕ) → is_place 0 (option_map suc o) ≡ false
place-zero None = refl
place-zero (Some j) = grind (arith, nat_tests)

gone : (m root : ℕ) (x : Node) (xs : List Node) → not (has_number x.number xs) ≡ true → has_number root xs ≡ true → (x.number == m) ≡ true → (m == root) ≡ false
gone m root x xs h k e = by (m == root) refl
  where
    by : (b : Bool) → (m == root) ≡ b → (m == root) ≡ false
    by false i = i
    by true i = no (sym (not-true (has_number x.number xs) h) ∙ ap (λ n. has_number n xs) (eqb-true x.number m e ∙ eqb-true m root i) ∙ k)

-- a node is the root of an instance exactly where it is the one with that place
pub is-root : (place m root : ℕ) (nodes : List Node) → are_apart nodes ≡ true → root_of place nodes ≡ Some root → is_place place (instance_of m nodes) ≡ (m == root)
is-root zero m root [] h e = none-some e
is-root (suc place) m root [] h e = none-some e
is-root zero m root (x ∷ xs) h e = by (is_root x.content) e (is-root zero m root xs parts.1)
  where
    parts : (not (has_number x.number xs) ≡ true) × (are_apart xs ≡ true)
    parts = and-true (not (has_number x.number xs)) (are_apart xs) h

    here : (b : Bool) → (x.number == m) ≡ b → x.number ≡ root → is_place 0 (cond b (Some 0) (option_map suc (instance_of m xs))) ≡ (m == root)
    here true i j = sym (ap (λ k. m == k) (sym j) ∙ turned m x.number ∙ i)
    here false i j = place-zero (instance_of m xs) ∙ sym (ap (λ k. m == k) (sym j) ∙ turned m x.number ∙ i)

    by : (b : Bool) → cond b (Some x.number) (root_of zero xs) ≡ Some root → (root_of zero xs ≡ Some root → is_place 0 (instance_of m xs) ≡ (m == root))
        → is_place 0 (cond b (cond (x.number == m) (Some 0) (option_map suc (instance_of m xs))) (instance_of m xs)) ≡ (m == root)
    by true i later = here (x.number == m) refl (some-same i)
    by false i later = later i
is-root (suc place) m root (x ∷ xs) h e = by (is-root place m root xs parts.1) (is-root (suc place) m root xs parts.1) (is_root x.content) e
  where
    parts : (not (has_number x.number xs) ≡ true) × (are_apart xs ≡ true)
    parts = and-true (not (has_number x.number xs)) (are_apart xs) h

    here : (root_of place xs ≡ Some root → is_place place (instance_of m xs) ≡ (m == root)) → (b : Bool) → (x.number == m) ≡ b → root_of place xs ≡ Some root → is_place (suc place) (cond b (Some 0) (option_map suc (instance_of m xs))) ≡ (m == root)
    here later true i j = place-none place ∙ sym (gone m root x xs parts.0 (root-live place root xs j) i)
      where
        place-none : (k : ℕ) → is_place (suc k) (Some 0) ≡ false
        place-none k = grind (arith, nat_tests)
    here later false i j = place-suc place (instance_of m xs) ∙ later j

    by : (root_of place xs ≡ Some root → is_place place (instance_of m xs) ≡ (m == root)) → (root_of (suc place) xs ≡ Some root → is_place (suc place) (instance_of m xs) ≡ (m == root))
        → (b : Bool) → cond b (root_of place xs) (root_of (suc place) xs) ≡ Some root
        → is_place (suc place) (cond b (cond (x.number == m) (Some 0) (option_map suc (instance_of m xs))) (instance_of m xs)) ≡ (m == root)
    by past same true i = here past (x.number == m) refl i
    by past same false i = same i

-- without such a root no node has this place
pub no-root : (place m : ℕ) (nodes : List Node) → root_of place nodes ≡ None → is_place place (instance_of m nodes) ≡ false
no-root zero m [] e = refl
no-root (suc place) m [] e = refl
no-root zero m (x ∷ xs) e = by (no-root zero m xs) (is_root x.content) e
  where
    by : (root_of zero xs ≡ None → is_place 0 (instance_of m xs) ≡ false) → (b : Bool) → cond b (Some x.number) (root_of zero xs) ≡ None → is_place 0 (cond b (cond (x.number == m) (Some 0) (option_map suc (instance_of m xs))) (instance_of m xs)) ≡ false
    by later true i = none-some (sym i)
    by later false i = later i
no-root (suc place) m (x ∷ xs) e = by (no-root place m xs) (no-root (suc place) m xs) (is_root x.content) e
  where
    here : (root_of place xs ≡ None → is_place place (instance_of m xs) ≡ false) → (b : Bool) → root_of place xs ≡ None → is_place (suc place) (cond b (Some 0) (option_map suc (instance_of m xs))) ≡ false
    here later true i = place-none place
      where
        place-none : (k : ℕ) → is_place (suc k) (Some 0) ≡ false
        place-none k = grind (arith, nat_tests)
    here later false i = place-suc place (instance_of m xs) ∙ later i

    by : (root_of place xs ≡ None → is_place place (instance_of m xs) ≡ false) → (root_of (suc place) xs ≡ None → is_place (suc place) (instance_of m xs) ≡ false) → (b : Bool) → cond b (root_of place xs) (root_of (suc place) xs) ≡ None → is_place (suc place) (cond b (cond (x.number == m) (Some 0) (option_map suc (instance_of m xs))) (instance_of m xs)) ≡ false
    by past same true i = here past (x.number == m) i
    by past same false i = same i

-- behind a place without a root there is none
pub none-behind : (place later : ℕ) (nodes : List Node) → place ≤ later → root_of place nodes ≡ None → root_of later nodes ≡ None
none-behind place later [] h e = refl
none-behind zero zero (x ∷ xs) h e = e
none-behind zero (suc later) (x ∷ xs) h e = by (is_root x.content) e (λ i. none-behind zero (suc later) xs h i)
  where
    by : (b : Bool) → cond b (Some x.number) (root_of zero xs) ≡ None → (root_of zero xs ≡ None → root_of (suc later) xs ≡ None) → cond b (root_of later xs) (root_of (suc later) xs) ≡ None
    by true i more = none-some (sym i)
    by false i more = more i
none-behind (suc place) zero (x ∷ xs) h e = absurd (omega (arith, h))
none-behind (suc place) (suc later) (x ∷ xs) h e = by (is_root x.content) e (λ i. none-behind place later xs (omega (arith, h)) i) (λ i. none-behind (suc place) (suc later) xs h i)
  where
    by : (b : Bool) → cond b (root_of place xs) (root_of (suc place) xs) ≡ None → (root_of place xs ≡ None → root_of later xs ≡ None)
        → (root_of (suc place) xs ≡ None → root_of (suc later) xs ≡ None) → cond b (root_of later xs) (root_of (suc later) xs) ≡ None
    by true i one other = one i
    by false i one other = other i

is-at : (place other : ℕ) → (place == other) ≡ true → other ≡ place
is-at place other e = sym (eqb-true place other e)

placed : (place : ℕ) (given : Option ℕ) → is_place place given ≡ true → given ≡ Some place
placed place None e = cc e
placed place (Some other) e = ap Some (is-at place other e)

-- one more root is another one
pub one-more : (count m : ℕ) (nodes : List Node) → ((place : ℕ) → place < count → is_place place (instance_of m nodes) ≡ false) → is_place count (instance_of m nodes) ≡ false
    → (place : ℕ) → place < count + 1 → is_place place (instance_of m nodes) ≡ false
one-more count m nodes before here place within = by (ltb place count) refl
  where
    by : (b : Bool) → ltb place count ≡ b → is_place place (instance_of m nodes) ≡ false
    by true e = before place (ltb-true place count e)
    by false e =
        let l : count ≤ place = ltb-false place count e in
        let same : place ≡ count = omega (arith, l, within) in
        ap (λ k. is_place k (instance_of m nodes)) same ∙ here

-- behind the last root a node is none
pub none-else : (count m : ℕ) (nodes : List Node) → ((place : ℕ) → place < count → is_place place (instance_of m nodes) ≡ false) → root_of count nodes ≡ None
    → (place : ℕ) → is_place place (instance_of m nodes) ≡ false
none-else count m nodes before none place = by (ltb place count) refl
  where
    by : (b : Bool) → ltb place count ≡ b → is_place place (instance_of m nodes) ≡ false
    by true e = before place (ltb-true place count e)
    by false e = no-root place m nodes (none-behind count place nodes (ltb-false place count e) none)

-- the root with a place is in the instance with this place
pub root-placed : (place m root : ℕ) (nodes : List Node) → are_apart nodes ≡ true → root_of place nodes ≡ Some root → root ≡ m → instance_of m nodes ≡ Some place
root-placed place m root nodes apart is same = placed place (instance_of m nodes) (is-root place m root nodes apart is ∙ ap (λ k. m == k) same ∙ eq-eqb m m refl)

-- another node is not
pub root-other : (place m root : ℕ) (nodes : List Node) → are_apart nodes ≡ true → root_of place nodes ≡ Some root → (root ≡ m → ⊥) → is_place place (instance_of m nodes) ≡ false
root-other place m root nodes apart is other = is-root place m root nodes apart is ∙ differs (m == root) refl
  where
    differs : (b : Bool) → (m == root) ≡ b → b ≡ false
    differs true e = absurd (other (sym (eqb-true m root e)))
    differs false e = refl

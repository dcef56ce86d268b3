-- What reading calls give stands in the forest: the nodes on an axis, the parent, the top of a tree, a root, a set in document order.
use Rattle.std.proofs.Common.{◌≡◌, ℕ, zero, suc, ◌==◌, Bool, true, false, cond, ◌&&◌, ◌||◌, List, [], ◌∷◌, map, nat_lt, Option, Some, None, refl, sym, ap, ◌∙◌, subst, ◌⊎◌, inl, inr, arith}
use Rattle.std.specs.Prelude.{reverse, find}
use Rattle.std.specs.List.{list_all}
use mathlib.Core.List.{reverse_aux}
use Rattle.std.proofs.lemmas.Bool.Decides.{nat_tests}
use Rattle.xf_name.specs.declared.axis.Axis.{Axis}
use Rattle.xf_def_forest.specs.declared.content.Node.{Node}
use Rattle.xf_def_forest.specs.Forest.{has_number, is_root}
use Rattle.xf_def_forest.specs.Visit.{Visit, visit, visits, visits_from, still_above, numbers, has, first_of, above_in, ancestors_of, parent_of, last_of, top_of}
use Rattle.xf_def_forest.specs.Order.{in_order}
use Rattle.xf_def_forest.specs.Changes.{root_of}
use Rattle.xf_def_forest.specs.Axis.{is_reverse, on_axis, axis_from, axis_of}
use Rattle.xf_def_forest.proofs.RenumberLaws.{map-reverse}
use Rattle.xf_def_forest.proofs.OrderLaws.{Sub, map-sub, filter-sub, axis-in_order, sub-has, seen-has}

swap : (a b c : Bool) → (b || (a || c)) ≡ ((a || b) || c)
swap true true c = refl
swap true false c = refl
swap false b c = refl

turned-onto : (m : ℕ) (ns ms : List ℕ) → has m (reverse_aux ns ms) ≡ (has m ns || has m ms)
turned-onto m [] ms = refl
turned-onto m (n ∷ ns) ms = turned-onto m ns (n ∷ ms) ∙ swap (m == n) (has m ns) (has m ms)

or-none : (b : Bool) → (b || false) ≡ b
or-none true = refl
or-none false = refl

has-turned : (m : ℕ) (ns : List ℕ) → has m (reverse ns) ≡ has m ns
has-turned m ns = turned-onto m ns [] ∙ or-none (has m ns)

near : (m : ℕ) (b : Bool) (xs : List Visit) → has m (map (λ v. v.number) (cond b (reverse xs) xs)) ≡ has m (map (λ v. v.number) xs)
near m true xs = ap (has m) (map-reverse (λ (v : Visit). v.number) xs) ∙ has-turned m (map (λ v. v.number) xs)
near m false xs = refl

none : {A : Type 0} → false ≡ true → A
none e = cc e

either : (a b : Bool) → (a || b) ≡ true → (a ≡ true) ⊎ (b ≡ true)
either true b h = inl refl
either false b h = inr h

left : (a b : Bool) → a ≡ true → (a || b) ≡ true
left true b h = refl
left false b h = none h

right : (a b : Bool) → b ≡ true → (a || b) ≡ true
right true b h = refl
right false b h = h

turned : (m n : ℕ) → (m == n) ≡ (n == m)
turned m n = grind (arith, nat_tests)

-- what a part has the whole has
part-has : (m : ℕ) {xs ys : List ℕ} → Sub xs ys → has m xs ≡ true → has m ys ≡ true
part-has m {ys = ys} p h = by (has m ys) refl
  where
    by : (b : Bool) → has m ys ≡ b → has m ys ≡ true
    by true i = i
    by false i = none (sym (sub-has m p i) ∙ h)

-- what is on an axis is live
pub axis-live : (axis : Axis) (n m : ℕ) (nodes : List Node) → has m (axis_of axis n (visits nodes)) ≡ true → has_number m nodes ≡ true
axis-live axis n m nodes h = by (find (λ x. x.number == n) (visits nodes)) h
  where
    by : (found : Option Visit) → has m (map (λ x. x.number) (axis_from axis (visits nodes) found)) ≡ true → has_number m nodes ≡ true
    by None i = none i
    by (Some x) i =
        sym (seen-has m [] nodes)
        ∙ part-has m (map-sub (λ (v : Visit). v.number) (axis-in_order axis (visits nodes) x)) (sym (near m (is_reverse axis) (on_axis axis (visits nodes) x)) ∙ i)

-- so is every item of a list, where what the list has is live
all-live : (nodes : List Node) (ns : List ℕ) → ((m : ℕ) → has m ns ≡ true → has_number m nodes ≡ true) → list_all (λ m. has_number m nodes) ns ≡ true
all-live nodes [] h = refl
all-live nodes (n ∷ ns) h =
    ap (λ b. b && list_all (λ m. has_number m nodes) ns) (h n (left (n == n) (has n ns) (same n)))
    ∙ all-live nodes ns (λ m i. h m (right (m == n) (has m ns) i))
  where
    same : (n : ℕ) → (n == n) ≡ true
    same n = grind (arith, nat_tests)

-- the whole list of an axis, for a loop over it
pub axis-all_live : (axis : Axis) (n : ℕ) (nodes : List Node) → list_all (λ m. has_number m nodes) (axis_of axis n (visits nodes)) ≡ true
axis-all_live axis n nodes = all-live nodes (axis_of axis n (visits nodes)) (λ m. axis-live axis n m nodes)

-- ---- ancestors

within : (m depth : ℕ) (ys : List Node) → has m (numbers (still_above depth ys)) ≡ true → has m (numbers ys) ≡ true
within m depth [] h = h
within m depth (y ∷ ys) h = by (within m depth ys) (nat_lt y.depth depth) h
  where
    by : (has m (numbers (still_above depth ys)) ≡ true → has m (numbers ys) ≡ true) → (b : Bool) → has m (numbers (cond b (y ∷ ys) (still_above depth ys))) ≡ true → has m (numbers (y ∷ ys)) ≡ true
    by later true i = i
    by later false i = right (m == y.number) (has m (numbers ys)) (later i)

above-within : (n m : ℕ) (above xs : List Node) → has m (above_in (find (λ x. x.number == n) (visits_from above xs))) ≡ true → (has m (numbers above) ≡ true) ⊎ (has_number m xs ≡ true)
above-within n m above [] h = none h
above-within n m above (x ∷ xs) h = by (above-within n m (x ∷ still_above x.depth above) xs) (x.number == n) h
  where
    stay : List Node
    stay = x ∷ still_above x.depth above

    first : (has m (numbers stay) ≡ true) → (has m (numbers above) ≡ true) ⊎ (has_number m (x ∷ xs) ≡ true)
    first i = elim (either (m == x.number) (has m (numbers (still_above x.depth above))) i) [
      | inl e ↦ inr (left (x.number == m) (has_number m xs) (turned x.number m ∙ e))
      | inr j ↦ inl (within m x.depth above j)
    ]

    by : (has m (above_in (find (λ v. v.number == n) (visits_from stay xs))) ≡ true → (has m (numbers stay) ≡ true) ⊎ (has_number m xs ≡ true))
        → (b : Bool) → has m (above_in (cond b (Some (visit above x)) (find (λ v. v.number == n) (visits_from stay xs)))) ≡ true → (has m (numbers above) ≡ true) ⊎ (has_number m (x ∷ xs) ≡ true)
    by later true i = inl (within m x.depth above i)
    by later false i = elim (later i) [ inl j ↦ first j | inr j ↦ inr (right (x.number == m) (has_number m xs) j) ]

pub ancestors-live : (n m : ℕ) (nodes : List Node) → has m (ancestors_of n (visits nodes)) ≡ true → has_number m nodes ≡ true
ancestors-live n m nodes h = elim (above-within n m [] nodes h) [ inl i ↦ none i | inr i ↦ i ]

pub parent-live : (n m : ℕ) (nodes : List Node) → parent_of n (visits nodes) ≡ Some m → has_number m nodes ≡ true
parent-live n m nodes h = ancestors-live n m nodes (first (ancestors_of n (visits nodes)) h)
  where
    first : (ns : List ℕ) → first_of ns ≡ Some m → has m ns ≡ true
    first [] i = cc i
    first (k ∷ ks) i = let e : k ≡ m = cc i in left (m == k) (has m ks) (grind (arith, nat_tests, e))

last-has : (n : ℕ) (ns : List ℕ) → has (last_of n ns) (n ∷ ns) ≡ true
last-has n [] = left (n == n) false (grind (arith, nat_tests))
last-has n (m ∷ ms) = right (last_of m ms == n) (has (last_of m ms) (m ∷ ms)) (last-has m ms)

pub top-live : (n : ℕ) (nodes : List Node) → has_number n nodes ≡ true → has_number (top_of n (visits nodes)) nodes ≡ true
top-live n nodes h =
    let top = top_of n (visits nodes) in
    elim (either (top == n) (has top (ancestors_of n (visits nodes))) (last-has n (ancestors_of n (visits nodes)))) [
      | inl e ↦ let is : n ≡ top = grind (arith, nat_tests, e) in subst (λ k. has_number k nodes ≡ true) is h
      | inr i ↦ ancestors-live n top nodes i
    ]

-- ---- roots, and sets

pub root-live : (place m : ℕ) (nodes : List Node) → root_of place nodes ≡ Some m → has_number m nodes ≡ true
root-live zero m [] h = cc h
root-live (suc place) m [] h = cc h
root-live zero m (x ∷ xs) h = by (root-live zero m xs) (is_root x.content) h
  where
    by : (root_of zero xs ≡ Some m → has_number m xs ≡ true) → (b : Bool) → cond b (Some x.number) (root_of zero xs) ≡ Some m → has_number m (x ∷ xs) ≡ true
    by later true i = let e : x.number ≡ m = cc i in left (x.number == m) (has_number m xs) (grind (arith, nat_tests, e))
    by later false i = right (x.number == m) (has_number m xs) (later i)
root-live (suc place) m (x ∷ xs) h = by (root-live place m xs) (root-live (suc place) m xs) (is_root x.content) h
  where
    by : (root_of place xs ≡ Some m → has_number m xs ≡ true) → (root_of (suc place) xs ≡ Some m → has_number m xs ≡ true) → (b : Bool) → cond b (root_of place xs) (root_of (suc place) xs) ≡ Some m → has_number m (x ∷ xs) ≡ true
    by past same true i = right (x.number == m) (has_number m xs) (past i)
    by past same false i = right (x.number == m) (has_number m xs) (same i)

pub in_order-live : (m : ℕ) (ns : List ℕ) (nodes : List Node) → has m (in_order (visits nodes) ns) ≡ true → has_number m nodes ≡ true
in_order-live m ns nodes h =
    sym (seen-has m [] nodes) ∙ part-has m (map-sub (λ (v : Visit). v.number) (filter-sub (λ (v : Visit). has v.number ns) (visits nodes))) h

-- The visits of a forest are those of its instances and those of its detached trees; and what other numbers keep of a forest.
use Rattle.std.proofs.Common.{◌≡◌, ℕ, suc, ◌+◌, ◌==◌, Bool, true, false, not, cond, ◌&&◌, ◌||◌, List, [], ◌∷◌, ◌++◌, map, nat_lt, Some, option_map, refl, sym, ap, ◌∙◌, arith, inl, inr}
use Rattle.std.specs.Prelude.{nat_le}
use Rattle.std.proofs.lemmas.Bool.{eqb-true}
use Rattle.std.proofs.lemmas.Bool.Decides.{nat_tests}
use Rattle.xf_def_forest.specs.declared.content.Node.{Node}
use Rattle.xf_def_forest.specs.Forest.{Forest, is_root, is_text, has_number}
use Rattle.xf_def_forest.specs.Visit.{Visit, still_above, numbers, visit, visits_from, visits, has}
use Rattle.xf_def_forest.specs.Changes.{is_detached_top, in_instances, in_detached}
use Rattle.xf_def_forest.specs.Same.{IsRenumbering, renumbered, renumbered_visit}
use Rattle.xf_def_forest.specs.WellFormed.{are_apart as nodes_apart, are_below, reach, are_depths_from, stands_first, are_first, are_tops, HasTrees}
use Rattle.xf_def_forest.proofs.BackLaws.{and-true}
use Rattle.xf_def_forest.proofs.RenumberLaws.{map-map, any-through}
use Rattle.xf_def_xpath.specs.Asked.{found}
use Rattle.xf_def_xpath.specs.Agree.{numbers_of, are_apart}
use Rattle.xf_def_xpath.proofs.RenumberLaws.{found-renumbered}
use Rattle.xf_def_xpath.proofs.VisitFacts.{self-same, or-cases, or-left, or-right, no}
use Rattle.xf_def_xpath.proofs.ForestVisits.{Each, each-found, self-found}
use Rattle.xf_law_recalculation.specs.Agree.Settles.{AreHung}
use Rattle.xf_law_recalculation.specs.Agree.Forests.{renumbered_forest}

-- ---- instances, then detached trees

pub parts : (nodes : List Node) → nodes ≡ in_instances nodes ++ in_detached nodes
parts [] = refl
parts (x ∷ xs) = by (is_detached_top x) (parts xs)
  where
    by : (b : Bool) → xs ≡ in_instances xs ++ in_detached xs → x ∷ xs ≡ cond b [] (x ∷ in_instances xs) ++ cond b (x ∷ xs) (in_detached xs)
    by true h = refl
    by false h = ap (λ l. x ∷ l) h

-- the first of these is a top
abbrev BeginsAtTop : List Node → Type 0
BeginsAtTop [] = Unit {0}
BeginsAtTop (x ∷ xs) = (x.depth == 0) ≡ true

begins : (nodes : List Node) → BeginsAtTop (in_detached nodes)
begins [] = tt
begins (x ∷ xs) = by (is_detached_top x) refl (begins xs)
  where
    by : (b : Bool) → is_detached_top x ≡ b → BeginsAtTop (in_detached xs) → BeginsAtTop (cond b (x ∷ xs) (in_detached xs))
    by true h i = (and-true (x.depth == 0) (not (is_root x.content)) h).0
    by false h i = i

nothing-above : (d : ℕ) (zs : List Node) → (d == 0) ≡ true → still_above d zs ≡ []
nothing-above d [] h = refl
nothing-above d (z ∷ zs) h = ap (λ b. cond b (z ∷ zs) (still_above d zs)) (no-less z.depth) ∙ nothing-above d zs h
  where
    no-less : (k : ℕ) → nat_lt k d ≡ false
    no-less k = grind (arith, nat_tests, h)

from-top : (above ys : List Node) → BeginsAtTop ys → visits_from above ys ≡ visits_from [] ys
from-top above [] h = refl
from-top above (y ∷ ys) h =
    ap (λ l. record { number = y.number; above = numbers l; content = y.content } ∷ visits_from (y ∷ l) ys) (nothing-above y.depth above h)

visits-append : (above xs ys : List Node) → BeginsAtTop ys → visits_from above (xs ++ ys) ≡ visits_from above xs ++ visits_from [] ys
visits-append above [] ys h = from-top above ys h
visits-append above (x ∷ xs) ys h = ap (λ l. visit above x ∷ l) (visits-append (x ∷ still_above x.depth above) xs ys h)

pub visits-parts : (nodes : List Node) → visits nodes ≡ visits (in_instances nodes) ++ visits (in_detached nodes)
visits-parts nodes = ap visits (parts nodes) ∙ visits-append [] (in_instances nodes) (in_detached nodes) (begins nodes)

-- ---- what stands above stands in the list

pub numbers-visits : (above xs : List Node) → numbers_of (visits_from above xs) ≡ numbers xs
numbers-visits above [] = refl
numbers-visits above (x ∷ xs) = ap (λ l. x.number ∷ l) (numbers-visits (x ∷ still_above x.depth above) xs)

still-has : (p d : ℕ) (zs : List Node) → has p (numbers (still_above d zs)) ≡ true → has p (numbers zs) ≡ true
still-has p d [] h = h
still-has p d (z ∷ zs) h = by (nat_lt z.depth d) h (still-has p d zs)
  where
    by : (b : Bool) → has p (numbers (cond b (z ∷ zs) (still_above d zs))) ≡ true → (has p (numbers (still_above d zs)) ≡ true → has p (numbers zs) ≡ true) → has p (numbers (z ∷ zs)) ≡ true
    by true i below = i
    by false i below = or-right (p == z.number) (has p (numbers zs)) (below i)

within-from : (all : List ℕ) (above xs : List Node) → ((p : ℕ) → has p (numbers above) ≡ true → has p all ≡ true) → ((p : ℕ) → has p (numbers xs) ≡ true → has p all ≡ true) →
    Each (λ v. (p : ℕ) → has p v.above ≡ true → has p all ≡ true) (visits_from above xs)
within-from all above [] h i = tt
within-from all above (x ∷ xs) h i = (
  λ p j. h p (still-has p x.depth above j),
  within-from all (x ∷ still_above x.depth above) xs
      (λ p j. elim (or-cases (p == x.number) (has p (numbers (still_above x.depth above))) j) [ inl a ↦ i p (or-left (p == x.number) (has p (numbers xs)) a) | inr b ↦ h p (still-has p x.depth above b) ])
      (λ p j. i p (or-right (p == x.number) (has p (numbers xs)) j)),
)

pub within : (nodes : List Node) → Each (λ v. (p : ℕ) → has p v.above ≡ true → has p (numbers_of (visits nodes)) ≡ true) (visits nodes)
within nodes = within-from (numbers_of (visits nodes)) [] nodes (λ p h. no h) (λ p h. ap (has p) (numbers-visits [] nodes) ∙ h)

-- ---- other numbers

module _ (f : ℕ → ℕ) (same : IsRenumbering f) where
  has-mapped : (n : ℕ) (ns : List ℕ) → has (f n) (map f ns) ≡ has n ns
  has-mapped n ns = any-through f (λ m. f n == m) (λ m. n == m) (λ m. same n m) ns

  mapped-apart : (ns : List ℕ) → are_apart (map f ns) ≡ are_apart ns
  mapped-apart [] = refl
  mapped-apart (n ∷ ns) = ap (λ b. not b && are_apart (map f ns)) (has-mapped n ns) ∙ ap (λ b. not (has n ns) && b) (mapped-apart ns)

  pub visits-apart : (xs : List Visit) → are_apart (numbers_of xs) ≡ true → are_apart (numbers_of (map (renumbered_visit f) xs)) ≡ true
  visits-apart xs h = ap are_apart (map-map (λ (y : Visit). y.number) (renumbered_visit f) xs ∙ sym (map-map f (λ (y : Visit). y.number) xs)) ∙ mapped-apart (numbers_of xs) ∙ h

  -- a number of the renumbered list
  pub number-from : (k : ℕ) (xs : List Visit) → has k (numbers_of (map (renumbered_visit f) xs)) ≡ true → (n : ℕ) × (k ≡ f n) × (has n (numbers_of xs) ≡ true)
  number-from k [] h = no h
  number-from k (x ∷ xs) h = elim (or-cases (k == f x.number) (has k (numbers_of (map (renumbered_visit f) xs))) h) [
    | inl a ↦ (x.number, eqb-true k (f x.number) a, or-left (x.number == x.number) (has x.number (numbers_of xs)) (self-same x.number))
    | inr b ↦ let n = number-from k xs b in (n.0, n.1, or-right (n.0 == x.number) (has n.0 (numbers_of xs)) n.2)
  ]

  nodes-apart_too : (nodes : List Node) → nodes_apart (map (renumbered f) nodes) ≡ nodes_apart nodes
  nodes-apart_too [] = refl
  nodes-apart_too (x ∷ xs) =
      ap (λ b. not b && nodes_apart (map (renumbered f) xs)) (any-through (renumbered f) (λ y. y.number == f x.number) (λ y. y.number == x.number) (λ y. same y.number x.number) xs)
      ∙ ap (λ b. not (has_number x.number xs) && b) (nodes-apart_too xs)

  depths-too : (most : ℕ) (nodes : List Node) → are_depths_from most (map (renumbered f) nodes) ≡ are_depths_from most nodes
  depths-too most [] = refl
  depths-too most (x ∷ xs) = ap (λ b. nat_le x.depth most && b) (depths-too (reach x) xs)

  tops-too : (nodes : List Node) → are_tops (map (renumbered f) nodes) ≡ are_tops nodes
  tops-too [] = refl
  tops-too (x ∷ xs) = ap (λ b. (not (is_root x.content) || (x.depth == 0)) && b) (tops-too xs)

  first-too : (nodes : List Node) → are_first (map (renumbered f) nodes) ≡ are_first nodes
  first-too [] = refl
  first-too (x ∷ []) = refl
  first-too (x ∷ y ∷ ys) = ap (λ b. stands_first x y && b) (first-too (y ∷ ys))

  below-more : (j k : ℕ) (nodes : List Node) → are_below k nodes ≡ true → are_below (j + k) nodes ≡ true
  below-more j k [] h = refl
  below-more j k (x ∷ xs) h =
      let both = and-true (nat_lt x.number k) (are_below k xs) h in
      let less : nat_lt x.number (j + k) ≡ true = (let i = both.0 in grind (arith, nat_tests, i)) in
      ap (λ b. b && are_below (j + k) xs) less ∙ below-more j k xs both.1

  bound : (nodes : List Node) → (next : ℕ) × (are_below next nodes ≡ true)
  bound [] = (0, refl)
  bound (x ∷ xs) =
      let rest = bound xs in
      let less : nat_lt x.number (suc x.number + rest.0) ≡ true = grind (arith, nat_tests) in
      (suc x.number + rest.0, ap (λ b. b && are_below (suc x.number + rest.0) xs) less ∙ below-more (suc x.number) rest.0 xs rest.1)

  pub trees-too : (forest : Forest) → HasTrees forest → (next : ℕ) × HasTrees (record (renumbered_forest f forest) { next = next })
  trees-too forest h =
      let next = bound (map (renumbered f) forest.nodes) in (
        next.0,
        record {
          apart = nodes-apart_too forest.nodes ∙ h.apart;
          below = next.1;
          depths = depths-too 0 forest.nodes ∙ h.depths;
          tops = tops-too forest.nodes ∙ h.tops;
          first = first-too forest.nodes ∙ h.first;
        },
      )

  abbrev Made : List Visit → Visit → Type 0
  Made all v = (y : Visit) × (found y.number all ≡ Some y) × (renumbered_visit f y ≡ v)

  made-each : (all xs : List Visit) → Each (λ y. found y.number all ≡ Some y) xs → Each (Made all) (map (renumbered_visit f) xs)
  made-each all [] e = tt
  made-each all (x ∷ xs) e = ((x, e.0, refl), made-each all xs e.1)

  pub hung-too : (all : List Visit) → are_apart (numbers_of all) ≡ true → AreHung all → AreHung (map (renumbered_visit f) all)
  hung-too all apart hung k x e t =
      let y = each-found (Made all) k (map (renumbered_visit f) all) x (made-each all all (self-found all apart)) e in
      let p = hung y.0.number y.0 y.1 (ap (λ (v : Visit). is_text v.content) y.2 ∙ t) in
      (f p.0, renumbered_visit f p.1, found-renumbered f same p.0 all ∙ ap (option_map (renumbered_visit f)) p.2, p.3, sym (ap (λ (v : Visit). v.above) y.2) ∙ ap (map f) p.4)

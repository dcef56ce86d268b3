-- Where the first child of a node stands.
use Rattle.std.proofs.Common.{◌≡◌, ℕ, ◌+◌, ◌==◌, Bool, true, false, not, cond, ◌&&◌, ◌||◌, List, [], ◌∷◌, map, Some, refl, sym, ap, ◌∙◌, arith}
use Rattle.std.specs.Prelude.{filter}
use Rattle.std.specs.List.{prefix_len}
use Rattle.std.proofs.lemmas.Bool.Decides.{nat_tests}
use Rattle.xf_def_forest.specs.Changes.{place_among, standing, with_place}
use Rattle.xf_def_forest.specs.Forest.{Forest, is_attribute}
use Rattle.xf_def_forest.specs.Visit.{Visit, above_in, attributes_of, children_of, first_of, has, is_first, parent_of, visits}
use Rattle.xf_def_forest.specs.WellFormed.{HasTrees}
use Rattle.xf_def_forest.proofs.BackLaws.{and-true}
use Rattle.xf_def_forest.proofs.OrderLaws.{visits-different}
use Rattle.xf_def_xpath.specs.Asked.{found}
use Rattle.xf_def_xpath.proofs.ForestVisits.{Each, self-found}
use Rattle.xf_def_xpath.proofs.VisitFacts.{no, none-some, self-same, some-same}

abbrev is_child : ℕ → Visit → Bool
is_child r x = is_first r x.above && not (is_attribute x.content)

abbrev is_own : ℕ → Visit → Bool
is_own r x = is_first r x.above && is_attribute x.content

record IsChild (r n : ℕ) (all : List Visit) : Type 0 where
  pub of : Visit
  pub number : of.number ≡ n
  pub child : is_child r of ≡ true
  pub there : found n all ≡ Some of

first-child : (r n : ℕ) (all ys : List Visit) → Each (λ v. found v.number all ≡ Some v) ys → first_of (map (λ (x : Visit). x.number) (filter (is_child r) ys)) ≡ Some n → IsChild r n all
first-child r n all [] h e = none-some e
first-child r n all (y ∷ ys) h e = by (is_child r y) refl e (first-child r n all ys h.1)
  where
    by : (b : Bool) → is_child r y ≡ b → first_of (map (λ (x : Visit). x.number) (cond b (y ∷ filter (is_child r) ys) (filter (is_child r) ys))) ≡ Some n
        → (first_of (map (λ (x : Visit). x.number) (filter (is_child r) ys)) ≡ Some n → IsChild r n all) → IsChild r n all
    by true i f later = let same : y.number ≡ n = some-same f in record { of = y; number = same; child = i; there = ap (λ k. found k all) (sym same) ∙ h.0 }
    by false i f later = later f

-- a node that is not so is none of those that are
none-among : (q : Visit → Bool) (n : ℕ) (x : Visit) (all ys : List Visit) → Each (λ v. found v.number all ≡ Some v) ys → found n all ≡ Some x → q x ≡ false → has n (map (λ (y : Visit). y.number) (filter q ys)) ≡ false
none-among q n x all [] h there e = refl
none-among q n x all (y ∷ ys) h there e = by (q y) refl (none-among q n x all ys h.1 there e)
  where
    other : q y ≡ true → (b : Bool) → (n == y.number) ≡ b → b ≡ false
    other i false f = refl
    other i true f =
        let same : n ≡ y.number = grind (arith, nat_tests, f) in
        let one : x ≡ y = some-same (sym there ∙ ap (λ k. found k all) same ∙ h.0) in
        no (sym e ∙ ap q one ∙ i)

    by : (b : Bool) → q y ≡ b → has n (map (λ (z : Visit). z.number) (filter q ys)) ≡ false → has n (map (λ (z : Visit). z.number) (cond b (y ∷ filter q ys) (filter q ys))) ≡ false
    by true i later = ap (λ b. b || has n (map (λ (z : Visit). z.number) (filter q ys))) (other i (n == y.number) refl) ∙ later
    by false i later = later

own-false : (a b : Bool) → (a && not b) ≡ true → (a && b) ≡ false
own-false true true h = no h
own-false true false h = refl
own-false false b h = refl

first-parent : (r : ℕ) (above : List ℕ) → is_first r above ≡ true → first_of above ≡ Some r
first-parent r [] h = no h
first-parent r (m ∷ ms) h = let same : m ≡ r = grind (arith, nat_tests, h) in ap Some same

first-place : (n : ℕ) (ns : List ℕ) → first_of ns ≡ Some n → place_among n ns ≡ 0
first-place n [] e = none-some e
first-place n (m ∷ ms) e =
    let same : m ≡ n = some-same e in
    ap (λ b. cond (not b) (1 + prefix_len (λ k. not (k == n)) ms) 0) (ap (λ k. k == n) same ∙ self-same n)

pub first-stands : (forest : Forest) (r n : ℕ) → HasTrees forest → first_of (children_of r (visits forest.nodes)) ≡ Some n → standing n forest.nodes ≡ Some (r, 0)
first-stands forest r n trees e =
    let all = visits forest.nodes in
    let each = self-found all (visits-different forest trees) in
    let x = first-child r n all all each e in
    let ps = and-true (is_first r x.of.above) (not (is_attribute x.of.content)) x.child in
    let parent : parent_of n all ≡ Some r = ap (λ o. first_of (above_in o)) x.there ∙ first-parent r x.of.above ps.0 in
    let none : has n (attributes_of r all) ≡ false = none-among (is_own r) n x.of all all each x.there (own-false (is_first r x.of.above) (is_attribute x.of.content) x.child) in
    ap (with_place all n) parent
    ∙ ap (λ b. Some (r, cond b (place_among n (attributes_of r all)) (place_among n (children_of r all)))) none
    ∙ ap (λ k. Some (r, k)) (first-place n (children_of r all) e)

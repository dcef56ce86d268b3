-- The children of all nodes from one down are what stands below it: `//name` from one node (XPath 1.0, section 2.5).
use Rattle.std.proofs.Common.{◌≡◌, ℕ, ◌==◌, Bool, true, false, not, cond, ◌&&◌, ◌||◌, ◌⊎◌, List, [], ◌∷◌, ◌++◌, map, Option, Some, None, option_map, refl, sym, ap, ◌∙◌, inl, inr}
use Rattle.std.specs.Prelude.{filter, is_some}
use Rattle.std.specs.List.{flat_map}
use Rattle.std.proofs.lemmas.Bool.{eqb-true}
use Rattle.xf_name.specs.declared.axis.Axis.{Axis}
use Rattle.xf_name.specs.declared.axis.Axis.TheVariants.{Child, Descendant, DescendantOrSelf}
use Rattle.xf_def_syntax.specs.declared.expr.Test.{Test}
use Rattle.xf_def_syntax.specs.declared.expr.Test.TheVariants as test
use Rattle.xf_def_forest.specs.declared.content.Content.{Content}
use Rattle.xf_def_forest.specs.declared.content.Content.TheVariants as content
use Rattle.xf_def_forest.specs.Forest.{is_attribute}
use Rattle.xf_def_forest.specs.Visit.{Visit, has, is_first}
use Rattle.xf_def_forest.specs.Axis.{is_on, axis_from}
use Rattle.xf_def_forest.specs.Texts.{Keeping}
use Rattle.xf_def_forest.specs.WellFormed.{AreTrees}
use Rattle.xf_def_forest.proofs.BackLaws.{and-true}
use Rattle.xf_def_xpath.specs.Setting.{Setting, ◌>>=◌, each, in_order, joined}
use Rattle.xf_def_xpath.specs.Tests.{meets}
use Rattle.xf_def_xpath.specs.Asked.{found, has_list}
use Rattle.xf_def_xpath.specs.Steps.{begun_at, reached}
use Rattle.xf_def_xpath.specs.Agree.{numbers_of, untexted, AreVisits}
use Rattle.xf_def_xpath.proofs.ForestVisits.{forest-visits}
use Rattle.xf_def_xpath.proofs.SameKept.{on, numbers-filter}
use Rattle.xf_def_xpath.proofs.VisitFacts.{self-same, or-cases, or-left, or-right, no, some-same, none-some, filter-and, filter-same, found-number, has-found, kept_if, found-filter, found-out}
use Rattle.xf_eval.specs.Taken.{taken}
use Rattle.xf_eval.specs.Worth.{seen}
use Rattle.xf_eval.proofs.Lists.{append-none}

both-ways : (a b : Bool) → (a ≡ true → b ≡ true) → (b ≡ true → a ≡ true) → a ≡ b
both-ways true b there back = sym (there refl)
both-ways false true there back = back refl
both-ways false false there back = refl

both-true : (a b : Bool) → a ≡ true → b ≡ true → (a && b) ≡ true
both-true true b e i = i
both-true false b e i = no e

-- ---- lists of lists

has-both : (k : ℕ) (ns ms : List ℕ) → has k (ns ++ ms) ≡ (has k ns || has k ms)
has-both k [] ms = refl
has-both k (n ∷ ns) ms = ap (λ b. (k == n) || b) (has-both k ns ms) ∙ by (k == n)
  where
    by : (b : Bool) → (b || (has k ns || has k ms)) ≡ ((b || has k ns) || has k ms)
    by true = refl
    by false = refl

record Through (f : ℕ → List ℕ) (k : ℕ) (ms : List ℕ) : Type 0 where
  at : ℕ
  stands : has at ms ≡ true
  gives : has k (f at) ≡ true

through-one : (f : ℕ → List ℕ) (k : ℕ) (ms : List ℕ) → has k (flat_map f ms) ≡ true → Through f k ms
through-one f k [] h = no h
through-one f k (m ∷ ms) h = elim (or-cases (has k (f m)) (has k (flat_map f ms)) (sym (has-both k (f m) (flat_map f ms)) ∙ h)) [
  | inl e ↦ record { at = m; stands = or-left (m == m) (has m ms) (self-same m); gives = e }
  | inr e ↦ let later = through-one f k ms e in record { at = later.at; stands = or-right (later.at == m) (has later.at ms) later.stands; gives = later.gives }
]

of-one : (f : ℕ → List ℕ) (k m : ℕ) (ms : List ℕ) → has m ms ≡ true → has k (f m) ≡ true → has k (flat_map f ms) ≡ true
of-one f k m [] h e = no h
of-one f k m (l ∷ ms) h e = has-both k (f l) (flat_map f ms) ∙ by (or-cases (m == l) (has m ms) h) (λ i. of-one f k m ms i e)
  where
    by : ((m == l) ≡ true) ⊎ (has m ms ≡ true) → (has m ms ≡ true → has k (flat_map f ms) ≡ true) → (has k (f l) || has k (flat_map f ms)) ≡ true
    by (inl i) below = or-left (has k (f l)) (has k (flat_map f ms)) (ap (λ j. has k (f j)) (sym (eqb-true m l i)) ∙ e)
    by (inr i) below = or-right (has k (f l)) (has k (flat_map f ms)) (below i)

-- ---- tests

meets-below : (t : Test) (c : Content) → meets Child t c ≡ meets Descendant t c
meets-below (test.Name name) c = refl
meets-below (test.InSpace space) c = refl
meets-below test.AnyName c = refl
meets-below test.Text c = refl
meets-below test.Node c = refl
meets-below test.Nothing c = refl

list-below : (c : Content) → has_list c ≡ true → not (is_attribute c) ≡ true
list-below content.Root h = refl
list-below (content.Element name) h = refl
list-below (content.Attribute name text) h = no h
list-below (content.Text text) h = no h

first-is : (n : ℕ) (ns : List ℕ) → is_first n ns ≡ true → (ms : List ℕ) × (ns ≡ n ∷ ms)
first-is n [] h = no h
first-is n (m ∷ ms) h = (ms, ap (λ k. k ∷ ms) (sym (eqb-true n m h)))

first-of : (n : ℕ) (ns : List ℕ) → has n ns ≡ true → (m : ℕ) × (ms : List ℕ) × (ns ≡ m ∷ ms)
first-of n [] h = no h
first-of n (m ∷ ms) h = (m, ms, refl)

opened : (m : Option Visit) (ns : List ℕ) → option_map (λ (z : Visit). z.above) m ≡ Some ns → (z : Visit) × (m ≡ Some z) × (z.above ≡ ns)
opened None ns h = none-some h
opened (Some z) ns h = (z, refl, some-same h)

-- ---- over one forest

module _ (all : List Visit) (v : AreVisits all) where
  kept : (p : Visit → Bool) (k : ℕ) (y : Visit) → found k all ≡ Some y → has k (numbers_of (filter p all)) ≡ p y
  kept p k y at = has-found k (filter p all) ∙ ap is_some (found-filter p k all v.apart ∙ ap (kept_if p) at) ∙ by (p y)
    where
      by : (b : Bool) → is_some (cond b (Some y) None) ≡ b
      by true = refl
      by false = refl

  -- whether a node is reached
  is-reached : (axis : Axis) → ((x : Visit) → axis_from axis all (Some x) ≡ filter (is_on axis x) all) → (t : Test) (n k : ℕ) (y : Visit) → found k all ≡ Some y →
      has k (reached axis t all n) ≡ on (λ x. is_on axis x y && meets axis t y.content) (found n all)
  is-reached axis plain t n k y at = by (found n all) refl
    where
      by : (m : Option Visit) → found n all ≡ m → has k (reached axis t all n) ≡ on (λ x. is_on axis x y && meets axis t y.content) m
      by None e = ap (λ m. has k (numbers_of (filter (λ q. meets axis t q.content) (axis_from axis all m)))) e
      by (Some x) e =
          ap (λ m. has k (numbers_of (filter (λ q. meets axis t q.content) (axis_from axis all m)))) e
          ∙ ap (λ l. has k (numbers_of (filter (λ q. meets axis t q.content) l))) (plain x)
          ∙ ap (λ l. has k (numbers_of l)) (sym (filter-and (λ (q : Visit). meets axis t q.content) (is_on axis x) all))
          ∙ kept (λ q. is_on axis x q && meets axis t q.content) k y at

  has-in_order : (ns : List ℕ) (k : ℕ) (y : Visit) → found k all ≡ Some y → has k (in_order all ns) ≡ has k ns
  has-in_order ns k y at = kept (λ q. has q.number ns) k y at ∙ ap (λ j. has j ns) (found-number k all y at)

  -- only what is found is in order
  in_order-found : (ns : List ℕ) (k : ℕ) → has k (in_order all ns) ≡ true → (y : Visit) × (found k all ≡ Some y)
  in_order-found ns k h = by (found k all) (sym (has-found k (filter (λ q. has q.number ns) all) ∙ ap is_some (found-filter (λ q. has q.number ns) k all v.apart)) ∙ h)
    where
      by : (m : Option Visit) → is_some (kept_if (λ q. has q.number ns) m) ≡ true → (y : Visit) × (m ≡ Some y)
      by None e = no e
      by (Some y) e = (y, refl)

  in_order-same : (ns ms : List ℕ) → ((k : ℕ) (y : Visit) → found k all ≡ Some y → has k ns ≡ has k ms) → in_order all ns ≡ in_order all ms
  in_order-same ns ms h =
      numbers-filter (λ x. has x.number ns) all v.apart
      ∙ filter-same (λ k. on (λ x. has x.number ns) (found k all)) (λ k. on (λ x. has x.number ms) (found k all)) (λ k. by k (found k all) refl) (numbers_of all)
      ∙ sym (numbers-filter (λ x. has x.number ms) all v.apart)
    where
      by : (k : ℕ) (m : Option Visit) → found k all ≡ m → on (λ x. has x.number ns) m ≡ on (λ x. has x.number ms) m
      by k None e = refl
      by k (Some y) e = ap (λ j. has j ns) (found-number k all y e) ∙ h k y e ∙ ap (λ j. has j ms) (sym (found-number k all y e))

  on-true : (p : Visit → Bool) (m : Option Visit) → on p m ≡ true → (x : Visit) × (m ≡ Some x) × (p x ≡ true)
  on-true p None h = no h
  on-true p (Some x) h = (x, refl, h)

  -- the parent of a node stands in the forest
  parent-found : (k p : ℕ) (ps : List ℕ) (y : Visit) → found k all ≡ Some y → y.above ≡ p ∷ ps → (z : Visit) × (found p all ≡ Some z) × (z.above ≡ ps)
  parent-found k p ps y at e =
      let z = opened (found p (untexted all)) ps (v.closed k p ps y at e) in
      (z.0, (found-out _ p all z.0 v.apart z.1).0, z.2)

  module _ (t : Test) (n : ℕ) where
    abbrev whole : List ℕ
    whole = reached DescendantOrSelf test.Node all n

    abbrev starts : List ℕ
    starts = begun_at true all (n ∷ [])

    abbrev children : ℕ → List ℕ
    children m = reached Child t all m

    has-start : (m : ℕ) (z : Visit) → found m all ≡ Some z → has m starts ≡ on (λ x. is_on DescendantOrSelf x z && true) (found n all)
    has-start m z at = has-in_order (whole ++ []) m z at ∙ ap (has m) (append-none whole) ∙ is-reached DescendantOrSelf (λ x. refl) test.Node n m z at

    -- a child of one that stands there is below
    child-below : (x z y : Visit) (k : ℕ) → found k all ≡ Some y → found z.number all ≡ Some z → is_first z.number y.above ≡ true → is_on DescendantOrSelf x z ≡ true → has x.number y.above ≡ true
    child-below x z y k at here first h =
        let split = first-is z.number y.above first in
        let parent = parent-found k z.number split.0 y at split.1 in
        let same : parent.0.above ≡ z.above = ap (λ (w : Visit). w.above) (some-same (sym parent.1 ∙ here)) in
        let above : y.above ≡ z.number ∷ z.above = split.1 ∙ ap (λ l. z.number ∷ l) (sym parent.2 ∙ same) in
        ap (has x.number) above ∙ by (or-cases (has x.number z.above && not (is_attribute z.content)) (x.number == z.number) h)
      where
        by : ((has x.number z.above && not (is_attribute z.content)) ≡ true) ⊎ ((x.number == z.number) ≡ true) → has x.number (z.number ∷ z.above) ≡ true
        by (inl i) = or-right (x.number == z.number) (has x.number z.above) (and-true (has x.number z.above) (not (is_attribute z.content)) i).0
        by (inr i) = or-left (x.number == z.number) (has x.number z.above) i

    there : (k : ℕ) (y : Visit) → found k all ≡ Some y → has k (flat_map children starts) ≡ true → has k (reached Descendant t all n) ≡ true
    there k y at h =
        let step = through-one children k starts h in
        let m = step.at in
        let mid = in_order-found (whole ++ []) m step.stands in
        let z = mid.0 in
        let named : z.number ≡ m = found-number m all z mid.1 in
        let here : found z.number all ≡ Some z = ap (λ j. found j all) named ∙ mid.1 in
        let top = on-true (λ x. is_on DescendantOrSelf x z && true) (found n all) (sym (has-start m z mid.1) ∙ step.stands) in
        let x = top.0 in
        let goes = and-true (is_on Child z y) (meets Child t y.content) (sym (is-reached Child (λ w. refl) t m k y at ∙ ap (on (λ w. is_on Child w y && meets Child t y.content)) mid.1) ∙ step.gives) in
        let parts = and-true (is_first z.number y.above) (not (is_attribute y.content)) goes.0 in
        let below = child-below x z y k at here parts.0 (and-true (is_on DescendantOrSelf x z) true top.2).0 in
        is-reached Descendant (λ w. refl) t n k y at ∙ ap (on (λ w. is_on Descendant w y && meets Descendant t y.content)) top.1
        ∙ both-true (is_on Descendant x y) (meets Descendant t y.content) (both-true (has x.number y.above) (not (is_attribute y.content)) below parts.1) (sym (meets-below t y.content) ∙ goes.1)

    -- the parent of one that stands below is where a step begins
    parent-starts : (x y : Visit) (k : ℕ) → found k all ≡ Some y → found n all ≡ Some x → has x.number y.above ≡ true → not (is_attribute y.content) ≡ true → meets Child t y.content ≡ true →
        has k (flat_map children starts) ≡ true
    parent-starts x y k at top h solid test =
        let split = first-of x.number y.above h in
        let p = split.0 in
        let ps = split.1 in
        let parent = parent-found k p ps y at split.2 in
        let z = parent.0 in
        let named : z.number ≡ p = found-number p all z parent.1 in
        let list : not (is_attribute z.content) ≡ true = list-below z.content (v.parents k p ps y z at split.2 parent.1) in
        let down : is_on DescendantOrSelf x z ≡ true = by z p ps named parent.2 list (or-cases (x.number == p) (has x.number ps) (sym (ap (has x.number) split.2) ∙ h)) in
        let stands : has p starts ≡ true = has-start p z parent.1 ∙ ap (on (λ w. is_on DescendantOrSelf w z && true)) top ∙ both-true (is_on DescendantOrSelf x z) true down refl in
        let first : is_first z.number y.above ≡ true = ap (is_first z.number) split.2 ∙ ap (λ j. z.number == j) (sym named) ∙ self-same z.number in
        of-one children k p starts stands
        (is-reached Child (λ w. refl) t p k y at ∙ ap (on (λ w. is_on Child w y && meets Child t y.content)) parent.1
        ∙ both-true (is_on Child z y) (meets Child t y.content) (both-true (is_first z.number y.above) (not (is_attribute y.content)) first solid) test)
      where
        by : (z : Visit) (p : ℕ) (ps : List ℕ) → z.number ≡ p → z.above ≡ ps → not (is_attribute z.content) ≡ true → ((x.number == p) ≡ true) ⊎ (has x.number ps ≡ true) → is_on DescendantOrSelf x z ≡ true
        by z p ps named above list (inl i) = or-right (has x.number z.above && not (is_attribute z.content)) (x.number == z.number) (ap (λ j. x.number == j) named ∙ i)
        by z p ps named above list (inr i) =
            or-left (has x.number z.above && not (is_attribute z.content)) (x.number == z.number) (both-true (has x.number z.above) (not (is_attribute z.content)) (ap (has x.number) above ∙ i) list)

    back : (k : ℕ) (y : Visit) → found k all ≡ Some y → has k (reached Descendant t all n) ≡ true → has k (flat_map children starts) ≡ true
    back k y at h =
        let top = on-true (λ x. is_on Descendant x y && meets Descendant t y.content) (found n all) (sym (is-reached Descendant (λ w. refl) t n k y at) ∙ h) in
        let x = top.0 in
        let goes = and-true (is_on Descendant x y) (meets Descendant t y.content) top.2 in
        let parts = and-true (has x.number y.above) (not (is_attribute y.content)) goes.0 in
        parent-starts x y k at top.1 parts.0 parts.1 (meets-below t y.content ∙ goes.1)

    pub children-below : in_order all (reached Descendant t all n) ≡ in_order all (flat_map (reached Child t all) (begun_at true all (n ∷ [])))
    children-below =
        in_order-same (reached Descendant t all n) (flat_map children starts) (λ k y at. both-ways (has k (reached Descendant t all n)) (has k (flat_map children starts)) (back k y at) (there k y at))

-- ---- a step without predicates

each-given : (f : ℕ → List ℕ) (ms : List ℕ) → each (λ m. Some (f m)) ms ≡ Some (map f ms)
each-given f [] = refl
each-given f (m ∷ ms) = ap (λ l. l >>= λ ys. Some (f m ∷ ys)) (each-given f ms)

joined-flat : (f : ℕ → List ℕ) (ms : List ℕ) → joined (map f ms) ≡ flat_map f ms
joined-flat f [] = refl
joined-flat f (m ∷ ms) = ap (λ l. f m ++ l) (joined-flat f ms)

taken-plain : (axis : Axis) (t : Test) (s : Setting) (ns : List ℕ) → taken axis t [] s ns ≡ Some (in_order s.all (flat_map (reached axis t s.all) ns))
taken-plain axis t s ns =
    ap (option_map (λ sets. in_order s.all (joined sets))) (each-given (reached axis t s.all) ns) ∙ ap (λ l. Some (in_order s.all l)) (joined-flat (reached axis t s.all) ns)

pub taken-below : (t : Test) (s : Setting) (n : ℕ) → AreVisits s.all → taken Descendant t [] s (n ∷ []) ≡ taken Child t [] s (begun_at true s.all (n ∷ []))
taken-below t s n v =
    taken-plain Descendant t s (n ∷ [])
    ∙ ap (λ l. Some (in_order s.all l)) (append-none (reached Descendant t s.all n))
    ∙ ap Some (children-below s.all v t n)
    ∙ sym (taken-plain Child t s (begun_at true s.all (n ∷ [])))

pub seen-visits : (k : Keeping) → AreTrees k → AreVisits (seen k.forest.nodes)
seen-visits k sound = forest-visits k.forest (record { apart = sound.apart; below = sound.below; depths = sound.depths; tops = sound.tops; first = sound.first })

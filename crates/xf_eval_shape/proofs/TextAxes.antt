-- What a step reaches from the one text of an element: the text, the element and what stands above it.
use Rattle.std.proofs.Common.{◌≡◌, ℕ, ◌==◌, Bool, true, false, not, cond, ◌&&◌, ◌||◌, List, [], ◌∷◌, ◌++◌, map, reverse, Some, None, refl, sym, ap, ◌∙◌, inl, inr}
use Rattle.std.specs.Prelude.{filter, is_some}
use Rattle.std.specs.List.{flat_map}
use Rattle.std.proofs.lemmas.Bool.{eqb-true}
use Rattle.std.proofs.lemmas.List.{reverse-append}
use Rattle.xf_name.specs.declared.axis.Axis.{Axis}
use Rattle.xf_name.specs.declared.axis.Axis.TheVariants.{Child, Attribute, Self_, Parent, Ancestor, AncestorOrSelf, Descendant, DescendantOrSelf, FollowingSibling, PrecedingSibling}
use Rattle.xf_def_syntax.specs.declared.expr.Test.{Test}
use Rattle.xf_def_syntax.specs.declared.expr.Test.TheVariants as test
use Rattle.xf_def_forest.specs.declared.content.Content.{Content}
use Rattle.xf_def_forest.specs.declared.content.Content.TheVariants as content
use Rattle.xf_def_forest.specs.Forest.{Forest, is_attribute, has_number}
use Rattle.xf_def_forest.specs.Visit.{Visit, has, is_first}
use Rattle.xf_def_forest.specs.Axis.{after, before, are_siblings, axis_from, is_on}
use Rattle.xf_def_forest.specs.Shape.{text_number}
use Rattle.xf_def_forest.proofs.BackLaws.{and-true, not-true, or-false}
use Rattle.xf_def_xpath.specs.Asked.{found}
use Rattle.xf_def_xpath.specs.AskedSteps.{is_kind}
use Rattle.xf_def_xpath.specs.Agree.{numbers_of, are_apart}
use Rattle.xf_def_xpath.specs.Setting.{in_order}
use Rattle.xf_def_xpath.specs.Steps.{reached}
use Rattle.xf_def_xpath.specs.Tests.{is_principal, meets}
use Rattle.xf_def_xpath.proofs.VisitFacts.{no, some-same, turned, or-cases, filter-and, filter-reverse, filter-same, found-number, has-found, found-filter, kept_if}
use Rattle.xf_def_xpath.proofs.ForestVisits.{Each, each-map, self-found}
use Rattle.xf_def_forest.proofs.RenumberLaws.{map-reverse}
use Rattle.xf_eval_shape.specs.Spots.{stands, is_leaf}
use Rattle.xf_eval_shape.specs.Steps.{if_so}
use Rattle.xf_eval_shape.proofs.Filled.{each-kept_none}
use Rattle.xf_eval_shape.proofs.Lists.{flat-one}
use Rattle.xf_eval_shape.proofs.Shapes.{Sound, live-found, real, whole, whole-visits, stands-found, text-found, text_in}
use Rattle.xf_eval_shape.proofs.Frames.{each-same, nothing-below}
use Rattle.xf_eval_shape.proofs.Plain.{leaf-visit}
use Rattle.xf_eval_shape.proofs.Children.{child-alone}
use Rattle.xf_eval_shape.proofs.Reached.{leaf-stands, has-list-leaf}

-- ---- one node

as-flat : {X : Type 0} (p : X → Bool) (xs : List X) → filter p xs ≡ flat_map (λ x. cond (p x) (x ∷ []) []) xs
as-flat p [] = refl
as-flat p (x ∷ xs) = by (p x) (as-flat p xs)
  where
    by : (b : Bool) → filter p xs ≡ flat_map (λ y. cond (p y) (y ∷ []) []) xs → cond b (x ∷ filter p xs) (filter p xs) ≡ cond b (x ∷ []) [] ++ flat_map (λ y. cond (p y) (y ∷ []) []) xs
    by true h = ap (λ l. x ∷ l) h
    by false h = h

one-node : (k : ℕ) (all : List Visit) (v : Visit) → are_apart (numbers_of all) ≡ true → found k all ≡ Some v → filter (λ z. k == z.number) all ≡ v ∷ []
one-node k all v a e = as-flat (λ z. k == z.number) all ∙ flat-one k (λ z. z ∷ []) all v a e

-- ---- tests

not-principal : (axis : Axis) → is_principal axis (content.Text []) ≡ false
not-principal Child = refl
not-principal Attribute = refl
not-principal Self_ = refl
not-principal Parent = refl
not-principal Ancestor = refl
not-principal AncestorOrSelf = refl
not-principal Descendant = refl
not-principal DescendantOrSelf = refl
not-principal FollowingSibling = refl
not-principal PrecedingSibling = refl

kind-text : (axis : Axis) (t : Test) → meets axis t (content.Text []) ≡ is_kind t
kind-text axis test.Text = refl
kind-text axis test.Node = refl
kind-text axis (test.Name name) = ap (λ b. b && false) (not-principal axis)
kind-text axis (test.InSpace space) = ap (λ b. b && false) (not-principal axis)
kind-text axis test.AnyName = not-principal axis
kind-text axis test.Nothing = refl

up-self : (t : Test) (c : Content) → meets Parent t c ≡ meets Self_ t c
up-self test.Text c = refl
up-self test.Node c = refl
up-self (test.Name name) c = refl
up-self (test.InSpace space) c = refl
up-self test.AnyName c = refl
up-self test.Nothing c = refl

up-too : (t : Test) (c : Content) → meets Ancestor t c ≡ meets AncestorOrSelf t c
up-too test.Text c = refl
up-too test.Node c = refl
up-too (test.Name name) c = refl
up-too (test.InSpace space) c = refl
up-too test.AnyName c = refl
up-too test.Nothing c = refl

-- ---- from the text of an element

module _ (forest : Forest) (sound : Sound forest) (n : ℕ) (live : has_number n forest.nodes ≡ true) (leaf : is_leaf forest.nodes n ≡ true) (t : Test) where
  abbrev y : Visit
  y = (live-found forest sound n live).0

  abbrev W : List Visit
  W = whole forest sound

  abbrev v : Visit
  v = text_in y

  at : found n (real forest sound) ≡ Some y
  at = (live-found forest sound n live).1

  named : y.number ≡ n
  named = found-number n (real forest sound) y at

  stand : stands forest.nodes n ≡ true
  stand = leaf-stands forest sound n live leaf

  here : found n W ≡ Some y
  here = stands-found forest sound n y at stand

  there : found (text_number n) W ≡ Some v
  there = text-found forest sound n y at (sym (leaf-visit forest.nodes n y at) ∙ leaf)

  apart : are_apart (numbers_of W) ≡ true
  apart = (whole-visits forest sound).apart

  abbrev number : List Visit → List ℕ
  number l = map (λ (z : Visit). z.number) l

  abbrev Met : Axis → Visit → Bool
  Met axis z = meets axis t z.content

  -- what the axis has from the text
  abbrev From : Axis → List ℕ
  From axis = reached axis t W (text_number n)

  from-there : (axis : Axis) → From axis ≡ number (filter (Met axis) (axis_from axis W (Some v)))
  from-there axis = ap (λ m. number (filter (Met axis) (axis_from axis W m))) there

  from-here : (axis : Axis) → reached axis t W n ≡ number (filter (Met axis) (axis_from axis W (Some y)))
  from-here axis = ap (λ m. number (filter (Met axis) (axis_from axis W m))) here

  v-number : v.number ≡ text_number n
  v-number = ap text_number named

  alone : (axis : Axis) → number (filter (Met axis) (v ∷ [])) ≡ if_so (is_kind t) (text_number n)
  alone axis = ap (λ b. number (cond b (v ∷ []) [])) (kind-text axis t) ∙ by (is_kind t)
    where
      by : (b : Bool) → number (cond b (v ∷ []) []) ≡ if_so b (text_number n)
      by true = ap (λ k. k ∷ []) v-number
      by false = refl

  itself : filter (λ z. v.number == z.number) W ≡ v ∷ []
  itself = one-node v.number W v apart (ap (λ k. found k W) v-number ∙ there)

  nothing : Each (λ z. has v.number z.above ≡ false) W
  nothing = nothing-below W (whole-visits forest sound) v.number v (ap (λ k. found k W) v-number ∙ there) refl

  pub text-self : if_so (is_kind t) (text_number n) ≡ From Self_
  text-self = sym (from-there Self_ ∙ ap (λ l. number (filter (Met Self_) l)) itself ∙ alone Self_)

  pub text-below : if_so (is_kind t) (text_number n) ≡ From DescendantOrSelf
  text-below = sym (from-there DescendantOrSelf ∙ ap (λ l. number (filter (Met DescendantOrSelf) l)) (each-same _ _ W (each-map _ _ W (λ z h. ap (λ b. (b && not (is_attribute z.content)) || (v.number == z.number)) h) nothing) ∙ itself) ∙ alone DescendantOrSelf)

  none : (axis : Axis) → filter (is_on axis v) W ≡ [] → axis_from axis W (Some v) ≡ filter (is_on axis v) W → [] ≡ From axis
  none axis h i = sym (from-there axis ∙ ap (λ l. number (filter (Met axis) l)) (i ∙ h))

  first-none : (k : ℕ) (ns : List ℕ) → has k ns ≡ false → is_first k ns ≡ false
  first-none k [] h = refl
  first-none k (m ∷ ms) h = by (k == m) h
    where
      by : (b : Bool) → (b || has k ms) ≡ false → b ≡ false
      by true i = i
      by false i = refl

  pub text-child : [] ≡ From Child
  text-child = none Child (each-kept_none _ W (each-map _ _ W (λ z h. ap (λ b. b && not (is_attribute z.content)) (first-none v.number z.above h)) nothing)) refl

  pub text-attribute : [] ≡ From Attribute
  text-attribute = none Attribute (each-kept_none _ W (each-map _ _ W (λ z h. ap (λ b. b && is_attribute z.content) (first-none v.number z.above h)) nothing)) refl

  pub text-descendant : [] ≡ From Descendant
  text-descendant = none Descendant (each-kept_none _ W (each-map _ _ W (λ z h. ap (λ b. b && not (is_attribute z.content)) h) nothing)) refl

  -- ---- above

  pub text-parent_of : reached Self_ t W n ≡ From Parent
  text-parent_of =
      from-here Self_
      ∙ ap (λ l. number (filter (Met Self_) l)) (one-node y.number W y apart (ap (λ k. found k W) named ∙ here))
      ∙ ap (λ b. number (cond b (y ∷ []) [])) (sym (up-self t y.content))
      ∙ sym (from-there Parent ∙ ap (λ l. number (filter (Met Parent) (reverse l))) (filter-same _ (λ z. y.number == z.number) (λ z. turned z.number y.number) W ∙ one-node y.number W y apart (ap (λ k. found k W) named ∙ here)))

  or-turned : (a b : Bool) → (a || b) ≡ (b || a)
  or-turned true true = refl
  or-turned true false = refl
  or-turned false true = refl
  or-turned false false = refl

  above-same : filter (is_on AncestorOrSelf y) W ≡ filter (is_on Ancestor v) W
  above-same = filter-same _ _ (λ z. or-turned (has z.number y.above) (y.number == z.number) ∙ ap (λ b. b || has z.number y.above) (turned y.number z.number)) W

  pub text-ancestors : reached AncestorOrSelf t W n ≡ From Ancestor
  text-ancestors =
      from-here AncestorOrSelf
      ∙ ap (λ l. number (filter (Met AncestorOrSelf) (reverse l))) above-same
      ∙ ap number (filter-same (Met AncestorOrSelf) (Met Ancestor) (λ z. sym (up-too t z.content)) (reverse (filter (is_on Ancestor v) W)))
      ∙ sym (from-there Ancestor)

  -- ---- the text, the element and what stands above

  has-both : (k : ℕ) (ns ms : List ℕ) → has k (ns ++ ms) ≡ (has k ns || has k ms)
  has-both k [] ms = refl
  has-both k (m ∷ ns) ms = ap (λ b. (k == m) || b) (has-both k ns ms) ∙ by (k == m)
    where
      by : (b : Bool) → (b || (has k ns || has k ms)) ≡ ((b || has k ns) || has k ms)
      by true = refl
      by false = refl

  has-turned : (k : ℕ) (ns : List ℕ) → has k (reverse ns) ≡ has k ns
  has-turned k [] = refl
  has-turned k (m ∷ ns) =
      ap (has k) (reverse-append (m ∷ []) ns)
      ∙ has-both k (reverse ns) (m ∷ [])
      ∙ ap (λ b. b || ((k == m) || false)) (has-turned k ns)
      ∙ by (has k ns) (k == m)
    where
      by : (a b : Bool) → (a || (b || false)) ≡ (b || a)
      by true true = refl
      by true false = refl
      by false true = refl
      by false false = refl

  has-kept : (r : Visit → Bool) (z : Visit) → found z.number W ≡ Some z → has z.number (number (filter r W)) ≡ r z
  has-kept r z h = has-found z.number (filter r W) ∙ ap is_some (found-filter r z.number W apart ∙ ap (kept_if r) h) ∙ by (r z)
    where
      by : (b : Bool) → is_some (cond b (Some z) None) ≡ b
      by true = refl
      by false = refl

  -- on a reverse axis
  turned-list : (r : Visit → Bool) → number (filter (Met AncestorOrSelf) (reverse (filter r W))) ≡ reverse (number (filter (λ z. r z && Met AncestorOrSelf z) W))
  turned-list r =
      ap number (filter-reverse (Met AncestorOrSelf) (filter r W))
      ∙ map-reverse (λ (z : Visit). z.number) (filter (Met AncestorOrSelf) (filter r W))
      ∙ ap (λ l. reverse (number l)) (sym (filter-and (Met AncestorOrSelf) r W))

  up-has : (z : Visit) → found z.number W ≡ Some z → has z.number (if_so (is_kind t) (text_number n) ++ reached AncestorOrSelf t W n) ≡ (is_on AncestorOrSelf v z && Met AncestorOrSelf z)
  up-has z h =
      has-both z.number (if_so (is_kind t) (text_number n)) (reached AncestorOrSelf t W n)
      ∙ ap (λ b. has z.number (if_so (is_kind t) (text_number n)) || b)
      (ap (has z.number) (from-here AncestorOrSelf ∙ turned-list (is_on AncestorOrSelf y))
      ∙ has-turned z.number (number (filter (λ x. is_on AncestorOrSelf y x && Met AncestorOrSelf x) W))
      ∙ has-kept (λ x. is_on AncestorOrSelf y x && Met AncestorOrSelf x) z h)
      ∙ by (v.number == z.number) refl
    where
      one : (b : Bool) → has z.number (if_so b (text_number n)) ≡ (b && (v.number == z.number))
      one true = or-false (z.number == text_number n) ∙ turned z.number (text_number n) ∙ ap (λ k. k == z.number) (sym v-number)
        where
          or-false : (b : Bool) → (b || false) ≡ b
          or-false true = refl
          or-false false = refl
      one false = refl

      self : (a b k : Bool) → ((k && true) || ((a || b) && k)) ≡ ((b || a || true) && k)
      self true true true = refl
      self true true false = refl
      self true false true = refl
      self true false false = refl
      self false true true = refl
      self false true false = refl
      self false false true = refl
      self false false false = refl

      another : (a b k m : Bool) → ((k && false) || ((a || b) && m)) ≡ (((b || a) || false) && m)
      another true true true m = refl
      another true true false m = refl
      another true false true m = refl
      another true false false m = refl
      another false true true m = refl
      another false true false m = refl
      another false false true m = refl
      another false false false m = refl

      by : (c : Bool) → (v.number == z.number) ≡ c →
          (has z.number (if_so (is_kind t) (text_number n)) || (is_on AncestorOrSelf y z && Met AncestorOrSelf z)) ≡ (((((z.number == y.number) || has z.number y.above)) || (v.number == z.number)) && Met AncestorOrSelf z)
      by true e =
          let same : z ≡ v = some-same (sym h ∙ ap (λ k. found k W) (sym (eqb-true v.number z.number e)) ∙ ap (λ k. found k W) v-number ∙ there) in
          let met : Met AncestorOrSelf z ≡ is_kind t = ap (Met AncestorOrSelf) same ∙ kind-text AncestorOrSelf t in
          ap (λ b. b || (is_on AncestorOrSelf y z && Met AncestorOrSelf z)) (one (is_kind t) ∙ ap (λ b. is_kind t && b) e)
          ∙ ap (λ m. (is_kind t && true) || ((has z.number y.above || (y.number == z.number)) && m)) met
          ∙ ap (λ b. (is_kind t && true) || ((has z.number y.above || b) && is_kind t)) (turned y.number z.number)
          ∙ self (has z.number y.above) (z.number == y.number) (is_kind t)
          ∙ shape (z.number == y.number) (has z.number y.above) (is_kind t)
          ∙ ap (λ b. (((z.number == y.number) || has z.number y.above) || b) && is_kind t) (sym e)
          ∙ ap (λ m. (((z.number == y.number) || has z.number y.above) || (v.number == z.number)) && m) (sym met)
        where
          shape : (b a k : Bool) → ((b || a || true) && k) ≡ (((b || a) || true) && k)
          shape true a k = refl
          shape false true k = refl
          shape false false k = refl
      by false e =
          ap (λ b. b || (is_on AncestorOrSelf y z && Met AncestorOrSelf z)) (one (is_kind t) ∙ ap (λ b. is_kind t && b) e)
          ∙ ap (λ b. (is_kind t && false) || ((has z.number y.above || b) && Met AncestorOrSelf z)) (turned y.number z.number)
          ∙ another (has z.number y.above) (z.number == y.number) (is_kind t) (Met AncestorOrSelf z)
          ∙ ap (λ b. (((z.number == y.number) || has z.number y.above) || b) && Met AncestorOrSelf z) (sym e)

  pub text-up : reverse (in_order W (if_so (is_kind t) (text_number n) ++ reached AncestorOrSelf t W n)) ≡ From AncestorOrSelf
  text-up =
      ap (λ l. reverse (number l)) (each-same _ (λ z. is_on AncestorOrSelf v z && Met AncestorOrSelf z) W (each-map (λ z. found z.number W ≡ Some z) _ W up-has (self-found W apart)))
      ∙ sym (turned-list (is_on AncestorOrSelf v))
      ∙ sym (from-there AncestorOrSelf)

  -- ---- beside the text stands nothing

  only-child : (z : Visit) → found z.number W ≡ Some z → is_on Child y z ≡ true → (v.number == z.number) ≡ true
  only-child z h i =
      let one : number (filter (is_on Child y) W) ≡ text_number n ∷ [] =
      ap number (sym (all-met (filter (is_on Child y) W)))
      ∙ sym (ap (λ m. number (filter (λ x. true) (axis_from Child W m))) here)
      ∙ child-alone forest sound n y at stand (has-list-leaf forest sound n live leaf) test.Node refl (not-true _ (and-true _ _ leaf).1)
      ∙ ap (λ b. if_so b (text_number n)) leaf in
      ap (λ k. k == z.number) v-number ∙ turned (text_number n) z.number ∙ only (sym (ap (has z.number) one) ∙ has-kept (is_on Child y) z h ∙ i)
    where
      all-met : (l : List Visit) → filter (λ (x : Visit). true) l ≡ l
      all-met [] = refl
      all-met (x ∷ xs) = ap (λ r. x ∷ r) (all-met xs)

      only : has z.number (text_number n ∷ []) ≡ true → (z.number == text_number n) ≡ true
      only j = elim (or-cases (z.number == text_number n) false j) [ inl a ↦ a | inr b ↦ no b ]

  each-after : (P : Visit → Type 0) (k : ℕ) (xs : List Visit) → Each P xs → are_apart (numbers_of xs) ≡ true → Each (λ z. P z × ((k == z.number) ≡ false)) (after k xs)
  each-after P k [] e a = tt
  each-after P k (x ∷ xs) e a = by (x.number == k) refl (each-after P k xs e.1 (and-true _ _ a).1)
    where
      behind : (zs : List Visit) → Each P zs → has k (numbers_of zs) ≡ false → Each (λ z. P z × ((k == z.number) ≡ false)) zs
      behind [] f h = tt
      behind (z ∷ zs) f h = let o = or-false (k == z.number) (has k (numbers_of zs)) h in ((f.0, o.0), behind zs f.1 o.1)

      by : (b : Bool) → (x.number == k) ≡ b → Each (λ z. P z × ((k == z.number) ≡ false)) (after k xs) → Each (λ z. P z × ((k == z.number) ≡ false)) (cond b xs (after k xs))
      by true h below = behind xs e.1 (ap (λ m. has m (numbers_of xs)) (sym (eqb-true x.number k h)) ∙ not-true (has x.number (numbers_of xs)) (and-true _ _ a).0)
      by false h below = below

  each-before : (P : Visit → Type 0) (k : ℕ) (xs : List Visit) → Each P xs → Each (λ z. P z × ((k == z.number) ≡ false)) (before k xs)
  each-before P k [] e = tt
  each-before P k (x ∷ xs) e = by (x.number == k) refl (each-before P k xs e.1)
    where
      by : (b : Bool) → (x.number == k) ≡ b → Each (λ z. P z × ((k == z.number) ≡ false)) (before k xs) → Each (λ z. P z × ((k == z.number) ≡ false)) (cond b [] (x ∷ before k xs))
      by true h below = tt
      by false h below = ((e.0, turned k x.number ∙ h), below)

  no-sibling : (z : Visit) → (found z.number W ≡ Some z) × ((v.number == z.number) ≡ false) → are_siblings v z ≡ false
  no-sibling z h = by (is_on Child y z) refl
    where
      flat : (a b : Bool) → (a && true && b) ≡ (a && b)
      flat true b = refl
      flat false b = refl

      by : (b : Bool) → is_on Child y z ≡ b → are_siblings v z ≡ false
      by true i = no (sym h.1 ∙ only-child z h.0 i)
      by false i = flat (is_first y.number z.above) (not (is_attribute z.content)) ∙ i

  pub text-following : [] ≡ From FollowingSibling
  text-following = sym (from-there FollowingSibling ∙ ap (λ l. number (filter (Met FollowingSibling) l))
      (each-kept_none (are_siblings v) (after v.number W) (each-map _ _ (after v.number W) no-sibling (each-after (λ z. found z.number W ≡ Some z) v.number W (self-found W apart) apart))))

  pub text-preceding : [] ≡ From PrecedingSibling
  text-preceding = sym (from-there PrecedingSibling ∙ ap (λ l. number (filter (Met PrecedingSibling) (reverse l)))
      (each-kept_none (are_siblings v) (before v.number W) (each-map _ _ (before v.number W) no-sibling (each-before (λ z. found z.number W ≡ Some z) v.number W (self-found W apart)))))

  -- on the other axes nothing
  pub text-default : (axis : Axis) → (axis ≡ Self_ → ⊥) → (axis ≡ DescendantOrSelf → ⊥) → (axis ≡ Parent → ⊥) → (axis ≡ Ancestor → ⊥) → (axis ≡ AncestorOrSelf → ⊥) → [] ≡ From axis
  text-default Child a b d e f = text-child
  text-default Attribute a b d e f = text-attribute
  text-default Self_ a b d e f = absurd (a refl)
  text-default Parent a b d e f = absurd (d refl)
  text-default Ancestor a b d e f = absurd (e refl)
  text-default AncestorOrSelf a b d e f = absurd (f refl)
  text-default Descendant a b d e f = text-descendant
  text-default DescendantOrSelf a b d e f = absurd (b refl)
  text-default FollowingSibling a b d e f = text-following
  text-default PrecedingSibling a b d e f = text-preceding

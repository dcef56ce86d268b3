-- What a step reaches that meets no texts, it reaches without them.
use Rattle.std.proofs.Common.{◌≡◌, ℕ, ◌==◌, Bool, true, false, not, cond, ◌&&◌, ◌||◌, List, [], ◌∷◌, map, reverse, Option, Some, None, option_map, refl, sym, ap, ◌∙◌, inl, inr}
use Rattle.std.specs.Prelude.{filter, is_some}
use Rattle.std.proofs.lemmas.Bool.{eqb-true}
use Rattle.xf_name.specs.declared.axis.Axis.{Axis}
use Rattle.xf_name.specs.declared.axis.Axis.TheVariants.{Child, Attribute, Self_, Parent, Ancestor, AncestorOrSelf, Descendant, DescendantOrSelf, FollowingSibling, PrecedingSibling}
use Rattle.xf_def_syntax.specs.declared.expr.Test.{Test}
use Rattle.xf_def_syntax.specs.declared.expr.Test.TheVariants.{Name, InSpace, AnyName, Text, Node, Nothing}
use Rattle.xf_def_forest.specs.declared.content.Content.{Content}
use Rattle.xf_def_forest.specs.declared.content.Content.TheVariants as content
use Rattle.xf_def_forest.specs.Forest.{is_text, is_attribute, is_element}
use Rattle.xf_def_forest.specs.Visit.{Visit, has, is_first}
use Rattle.xf_def_forest.specs.Axis.{is_on, in_range, on_axis, is_reverse, axis_from}
use Rattle.xf_def_forest.proofs.BackLaws.{and-true}
use Rattle.xf_def_forest.proofs.OrderLaws.{filter-sub, map-sub, sub-different}
use Rattle.xf_def_xpath.specs.Tests.{is_principal, meets}
use Rattle.xf_def_xpath.specs.Asked.{found}
use Rattle.xf_def_xpath.specs.AskedSteps.{is_kind, meets_texts}
use Rattle.xf_def_xpath.specs.Steps.{reached}
use Rattle.xf_def_xpath.specs.Agree.{numbers_of, are_apart, untexted, AreVisits}
use Rattle.xf_def_xpath.proofs.VisitFacts.{self-same, or-cases, or-left, or-right, no, some-same, filter-and, filter-same, filter-within, filter-reverse, found-number, has-found, kept_if, found-filter, found-out}
use Rattle.xf_def_xpath.proofs.SameKept.{on, numbers-filter, region}
use Rattle.xf_def_xpath.proofs.AxisAgree.{Frame, Stands, stands-at, above-stands, filter-after, filter-before, has-sub}
use Rattle.xf_def_forest.proofs.RenumberLaws.{map-reverse}

-- ---- a part of a list, in its order

filter-each : (p : ℕ → Bool) (ns : List ℕ) → ((k : ℕ) → has k ns ≡ true → p k ≡ true) → filter p ns ≡ ns
filter-each p [] h = refl
filter-each p (n ∷ ns) h =
    ap (λ b. cond b (n ∷ filter p ns) (filter p ns)) (h n (or-left (n == n) (has n ns) (self-same n)))
    ∙ ap (λ l. n ∷ l) (filter-each p ns (λ k i. h k (or-right (k == n) (has k ns) i)))

pub part-order : (q : Visit → Bool) (all : List Visit) → are_apart (numbers_of all) ≡ true →
    filter (λ n. has n (numbers_of (filter q all))) (numbers_of all) ≡ filter (λ n. has n (numbers_of all)) (numbers_of (filter q all))
part-order q all h =
    filter-same (λ n. has n (numbers_of (filter q all))) (λ n. on q (found n all)) (λ n. has-found n (filter q all) ∙ ap is_some (found-filter q n all h) ∙ by (found n all)) (numbers_of all)
    ∙ sym (numbers-filter q all h)
    ∙ sym (filter-each (λ n. has n (numbers_of all)) (numbers_of (filter q all)) (λ k i. has-sub k (map-sub (λ (y : Visit). y.number) (filter-sub q all)) i))
  where
    by : (m : Option Visit) → is_some (kept_if q m) ≡ on q m
    by None = refl
    by (Some y) = of (q y)
      where
        of : (b : Bool) → is_some (cond b (Some y) None) ≡ b
        of true = refl
        of false = refl

-- ---- which tests meet no texts

abbrev pub is_solid : Visit → Bool
is_solid y = not (is_text y.content)

attribute-solid : (c : Content) → is_attribute c ≡ true → not (is_text c) ≡ true
attribute-solid content.Root h = refl
attribute-solid (content.Element name) h = refl
attribute-solid (content.Attribute name text) h = refl
attribute-solid (content.Text text) h = no h

element-solid : (c : Content) → is_element c ≡ true → not (is_text c) ≡ true
element-solid content.Root h = refl
element-solid (content.Element name) h = refl
element-solid (content.Attribute name text) h = refl
element-solid (content.Text text) h = no h

principal-solid : (axis : Axis) (c : Content) → is_principal axis c ≡ true → not (is_text c) ≡ true
principal-solid Attribute c h = attribute-solid c h
principal-solid Child c h = element-solid c h
principal-solid Self_ c h = element-solid c h
principal-solid Parent c h = element-solid c h
principal-solid Ancestor c h = element-solid c h
principal-solid AncestorOrSelf c h = element-solid c h
principal-solid Descendant c h = element-solid c h
principal-solid DescendantOrSelf c h = element-solid c h
principal-solid FollowingSibling c h = element-solid c h
principal-solid PrecedingSibling c h = element-solid c h

pub meets-solid : (axis : Axis) (test : Test) (c : Content) → is_kind test ≡ false → meets axis test c ≡ true → not (is_text c) ≡ true
meets-solid axis (Name name) c k h = principal-solid axis c (and-true _ _ h).0
meets-solid axis (InSpace space) c k h = principal-solid axis c (and-true _ _ h).0
meets-solid axis AnyName c k h = principal-solid axis c h
meets-solid axis Text c k h = no (sym k)
meets-solid axis Node c k h = no (sym k)
meets-solid axis Nothing c k h = no h

-- ---- a forest without its texts

module _ (all : List Visit) (v : AreVisits all) where
  pub bare-apart : are_apart (numbers_of (untexted all)) ≡ true
  bare-apart = sub-different (map-sub (λ (y : Visit). y.number) (filter-sub (λ y. not (is_text y.content)) all)) v.apart

  pub solid-found : (n : ℕ) (x : Visit) → found n (untexted all) ≡ Some x → (found n all ≡ Some x) × (is_solid x ≡ true)
  solid-found n x h = found-out is_solid n all x v.apart h

  pub bare-closed : (k n : ℕ) (ns : List ℕ) (x : Visit) → found k (untexted all) ≡ Some x → x.above ≡ n ∷ ns → option_map (λ z. z.above) (found n (untexted all)) ≡ Some ns
  bare-closed k n ns x h e = v.closed k n ns x (solid-found k x h).0 e

  pub itself : Frame (untexted all) (untexted all)
  itself = record { apart = bare-apart; apart_too = bare-apart; closed = bare-closed; closed_too = bare-closed; order = refl; contents = λ n x y h k. ap (λ (z : Visit). z.content) (some-same (sym h ∙ k)) }

  abbrev Same : Axis → Test → Visit → Type 0
  Same axis test x = numbers_of (filter (λ y. meets axis test y.content) (on_axis axis all x)) ≡ numbers_of (filter (λ y. meets axis test y.content) (on_axis axis (untexted all) x))

  -- tests that meet no texts anyway
  pointwise : (axis : Axis) (T : Visit → Bool) (x : Visit) (part : List Visit) → ((y : Visit) → (is_on axis x y && T y) ≡ true → is_solid y ≡ true) →
      filter T (filter (is_on axis x) part) ≡ filter T (filter (is_on axis x) (filter is_solid part))
  pointwise axis T x part h =
      sym (filter-and T (is_on axis x) part) ∙ sym (filter-within (λ y. is_on axis x y && T y) is_solid h part) ∙ filter-and T (is_on axis x) (filter is_solid part)

  module _ (n : ℕ) (x : Visit) (e : found n (untexted all) ≡ Some x) where
    ranged : (axis : Axis) → filter is_solid (in_range axis x.number all) ≡ in_range axis x.number (untexted all)
    ranged Child = refl
    ranged Attribute = refl
    ranged Self_ = refl
    ranged Parent = refl
    ranged Ancestor = refl
    ranged AncestorOrSelf = refl
    ranged Descendant = refl
    ranged DescendantOrSelf = refl
    ranged FollowingSibling = filter-after is_solid x.number x all (ap (λ m. found m all) (found-number n (untexted all) x e) ∙ (solid-found n x e).0) (solid-found n x e).1
    ranged PrecedingSibling = filter-before is_solid x.number x all (ap (λ m. found m all) (found-number n (untexted all) x e) ∙ (solid-found n x e).0) (solid-found n x e).1

    by-test : (axis : Axis) (test : Test) → ((y : Visit) → (is_on axis x y && meets axis test y.content) ≡ true → is_solid y ≡ true) → Same axis test x
    by-test axis test h =
        ap numbers_of (pointwise axis (λ y. meets axis test y.content) x (in_range axis x.number all) h)
        ∙ ap (λ l. numbers_of (filter (λ y. meets axis test y.content) (filter (is_on axis x) l))) (ranged axis)

    -- nodes at or above one that is no text
    by-place : (T : Visit → Bool) (t : ℕ → Bool) → ((k : ℕ) → t k ≡ true → Stands (untexted all) (untexted all) k) →
        numbers_of (filter T (filter (λ y. t y.number) all)) ≡ numbers_of (filter T (filter (λ y. t y.number) (untexted all)))
    by-place T t stand =
        ap numbers_of (sym (filter-and T (λ y. t y.number) all))
        ∙ region all (untexted all) v.apart bare-apart (part-order is_solid all v.apart) (λ y. t y.number && T y)
        (λ k y g h. let s = stand k (ap t (sym (found-number k all y g)) ∙ (and-true _ _ h).0) in s.first ∙ sym (solid-found k s.visit s.first).0 ∙ g)
        (λ k y g h. (solid-found k y g).0)
        ∙ ap numbers_of (filter-and T (λ y. t y.number) (untexted all))

    above : (k : ℕ) → has k x.above ≡ true → Stands (untexted all) (untexted all) k
    above k h = above-stands itself x.above k n x e e refl h

    here : (k : ℕ) → (x.number == k) ≡ true → Stands (untexted all) (untexted all) k
    here k h = stands-at k n (sym (eqb-true x.number k h) ∙ found-number n (untexted all) x e) (record { visit = x; first = e; second = e })

    first-has : (k : ℕ) (ns : List ℕ) → is_first k ns ≡ true → has k ns ≡ true
    first-has k [] h = h
    first-has k (m ∷ ms) h = ap (λ b. b || has k ms) h

    kinds : (axis : Axis) (kind : Test) → meets_texts axis ≡ false → Same axis kind x
    kinds Child kind h = no (sym h)
    kinds Attribute kind h = by-test Attribute kind (λ y i. attribute-solid y.content (and-true _ _ (and-true _ _ i).0).1)
    kinds Self_ kind h = by-place (λ y. meets Self_ kind y.content) (λ k. x.number == k) here
    kinds Parent kind h = by-place (λ y. meets Parent kind y.content) (λ k. is_first k x.above) (λ k i. above k (first-has k x.above i))
    kinds Ancestor kind h = by-place (λ y. meets Ancestor kind y.content) (λ k. has k x.above) above
    kinds AncestorOrSelf kind h = by-place (λ y. meets AncestorOrSelf kind y.content) (λ k. has k x.above || (x.number == k)) (λ k i. elim (or-cases (has k x.above) (x.number == k) i) [ inl l ↦ above k l | inr r ↦ here k r ])
    kinds Descendant kind h = no (sym h)
    kinds DescendantOrSelf kind h = no (sym h)
    kinds FollowingSibling kind h = no (sym h)
    kinds PrecedingSibling kind h = no (sym h)

    either : (axis : Axis) (kind : Test) (b c : Bool) → is_kind kind ≡ b → meets_texts axis ≡ c → not (b && c) ≡ true → Same axis kind x
    either axis kind true true i j h = no h
    either axis kind true false i j h = kinds axis kind j
    either axis kind false c i j h = by-test axis kind (λ y k. meets-solid axis kind y.content i (and-true _ _ k).1)

    in-proximity : (T : Visit → Bool) (r : Bool) (part : List Visit) → map (λ (y : Visit). y.number) (filter T (cond r (reverse part) part)) ≡ cond r (reverse (numbers_of (filter T part))) (numbers_of (filter T part))
    in-proximity T true part = ap numbers_of (filter-reverse T part) ∙ map-reverse (λ (y : Visit). y.number) (filter T part)
    in-proximity T false part = refl

    pub reached-untexted : (axis : Axis) (test : Test) → not (is_kind test && meets_texts axis) ≡ true → reached axis test all n ≡ reached axis test (untexted all) n
    reached-untexted axis test h =
        ap (λ m. numbers_of (filter (λ y. meets axis test y.content) (axis_from axis all m))) (solid-found n x e).0
        ∙ in-proximity (λ y. meets axis test y.content) (is_reverse axis) (on_axis axis all x)
        ∙ ap (λ l. cond (is_reverse axis) (reverse l) l) (either axis test (is_kind test) (meets_texts axis) refl refl h)
        ∙ sym (in-proximity (λ y. meets axis test y.content) (is_reverse axis) (on_axis axis (untexted all) x))
        ∙ ap (λ m. numbers_of (filter (λ y. meets axis test y.content) (axis_from axis (untexted all) m))) (sym e)

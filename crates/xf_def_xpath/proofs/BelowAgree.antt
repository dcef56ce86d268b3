-- `//` before a step that goes down: from the texts that it meets the step gives nothing, and the other nodes are the same in both forests.
use Rattle.std.proofs.Common.{◌≡◌, ℕ, ◌==◌, Bool, true, false, not, cond, ◌&&◌, ◌||◌, List, [], ◌∷◌, ◌++◌, map, Option, Some, None, option_map, unwrap_or, refl, sym, ap, ◌∙◌, inl, inr}
use Rattle.std.specs.Prelude.{filter, is_some}
use Rattle.std.specs.List.{flat_map}
use Rattle.std.proofs.lemmas.Bool.{eqb-true}
use Rattle.xf_name.specs.declared.axis.Axis.{Axis}
use Rattle.xf_name.specs.declared.axis.Axis.TheVariants.{Child, Attribute, Self_, Parent, Ancestor, AncestorOrSelf, Descendant, DescendantOrSelf, FollowingSibling, PrecedingSibling}
use Rattle.xf_def_syntax.specs.declared.expr.Test.{Test}
use Rattle.xf_def_syntax.specs.declared.expr.Test.TheVariants.{Node}
use Rattle.xf_def_forest.specs.Forest.{is_attribute}
use Rattle.xf_def_forest.specs.Visit.{Visit, has, is_first}
use Rattle.xf_def_forest.specs.Axis.{is_on, axis_from}
use Rattle.xf_def_forest.proofs.BackLaws.{and-true}
use Rattle.xf_def_xpath.specs.Setting.{Setting, Meaning, in_order}
use Rattle.xf_def_xpath.specs.Tests.{meets}
use Rattle.xf_def_xpath.specs.Asked.{found, lists_below}
use Rattle.xf_def_xpath.specs.AskedSteps.{lists_of, is_kind, meets_texts, goes_up}
use Rattle.xf_def_xpath.specs.Steps.{reached, kept_by_all, from_one, begun_at}
use Rattle.xf_def_xpath.specs.Agree.{numbers_of, are_apart, untexted, AreVisits}
use Rattle.xf_def_xpath.specs.Exact.{is_sibling}
use Rattle.xf_def_xpath.proofs.VisitFacts.{self-same, or-cases, or-left, or-right, no, some-same, none-some, filter-and, filter-same, filter-none, found-number, has-found, kept_if, found-filter, found-in}
use Rattle.xf_def_xpath.proofs.SameKept.{on, numbers-filter, has-left, has-right, has-append, has-filter, kept-found}
use Rattle.xf_def_xpath.proofs.AxisAgree.{above-stands}
use Rattle.xf_def_xpath.proofs.ReachAgree.{Reach, reach}
use Rattle.xf_def_xpath.proofs.UntextedLaws.{is_solid, meets-solid, bare-apart, solid-found, itself}
use Rattle.xf_def_xpath.proofs.Comparison.{Comparison, other, over_shape, Solid, AllSolid, Agree, agree-less, lists-untexted, in_order-framed, solid-both}
use Rattle.xf_def_xpath.proofs.Gives.{Gives, gives-at, gives-weaker}
use Rattle.xf_def_xpath.proofs.PlacedLaws.{Placed}
use Rattle.xf_def_xpath.proofs.StepAgree.{gathered, gathered-without, flat-without, step-agree}

opened : (m : Option Visit) (ns : List ℕ) → option_map (λ (z : Visit). z.above) m ≡ Some ns → (z : Visit) × (m ≡ Some z) × (z.above ≡ ns)
opened None ns h = none-some h
opened (Some z) ns h = (z, refl, some-same h)

nothing-kept : (p : Visit → Bool) (all : List Visit) → are_apart (numbers_of all) ≡ true → ((j : ℕ) (z : Visit) → found j all ≡ Some z → p z ≡ true → false ≡ true) → numbers_of (filter p all) ≡ []
nothing-kept p all a h = numbers-filter p all a ∙ filter-none (λ k. on p (found k all)) (λ k. by k (found k all) refl) (numbers_of all)
  where
    false-of : (b : Bool) → (b ≡ true → false ≡ true) → b ≡ false
    false-of true i = sym (i refl)
    false-of false i = refl

    by : (k : ℕ) (m : Option Visit) → found k all ≡ m → on p m ≡ false
    by k None e = refl
    by k (Some z) e = false-of (p z) (h k z e)

-- ---- over one forest

module _ (all : List Visit) (v : AreVisits all) where
  -- a node that nothing stands below
  no-child : (k : ℕ) → found k (untexted all) ≡ None → (j : ℕ) (z : Visit) → found j all ≡ Some z → has k z.above ≡ true → false ≡ true
  no-child k none j z e h = by z.above refl h
    where
      by : (ns : List ℕ) → z.above ≡ ns → has k ns ≡ true → false ≡ true
      by [] i l = l
      by (m ∷ ms) i l =
          let p = opened (found m (untexted all)) ms (v.closed j m ms z e i) in
          elim (or-cases (k == m) (has k ms) l) [
            | inl a ↦ none-some (sym none ∙ ap (λ q. found q (untexted all)) (eqb-true k m a) ∙ p.1)
            | inr b ↦ none-some (sym none ∙ (above-stands (itself all v) ms k m p.0 p.1 p.1 p.2 b).first)
          ]

  first-has : (k : ℕ) (ns : List ℕ) → is_first k ns ≡ true → has k ns ≡ true
  first-has k [] h = h
  first-has k (m ∷ ms) h = or-left (k == m) (has k ms) h

  module _ (k : ℕ) (none : found k (untexted all) ≡ None) (y : Visit) (at : found k all ≡ Some y) where
    below : (j : ℕ) (z : Visit) → found j all ≡ Some z → has y.number z.above ≡ true → false ≡ true
    below j z e h = no-child k none j z e (ap (λ n. has n z.above) (sym (found-number k all y at)) ∙ h)

    itself-kept : (T : Visit → Bool) → ((z : Visit) → T z ≡ true → is_solid z ≡ true) → (j : ℕ) (z : Visit) → found j all ≡ Some z → (y.number == z.number) ≡ true → T z ≡ true → false ≡ true
    itself-kept T solid j z e h i =
        let same : j ≡ k = sym (found-number j all z e) ∙ sym (eqb-true y.number z.number h) ∙ found-number k all y at in
        none-some (sym none ∙ found-in is_solid k all z v.apart (ap (λ q. found q all) (sym same) ∙ e) (solid z i))

    off : (axis : Axis) (kind : Test) → not (is_kind kind && meets_texts axis) ≡ true → not (goes_up axis || is_sibling axis) ≡ true →
        (j : ℕ) (z : Visit) → found j all ≡ Some z → (is_on axis y z && meets axis kind z.content) ≡ true → false ≡ true
    off Child kind x d j z e h = below j z e (first-has y.number z.above (and-true _ _ (and-true _ _ h).0).0)
    off Attribute kind x d j z e h = below j z e (first-has y.number z.above (and-true _ _ (and-true _ _ h).0).0)
    off Descendant kind x d j z e h = below j z e (and-true _ _ (and-true _ _ h).0).0
    off DescendantOrSelf kind x d j z e h = elim (or-cases (has y.number z.above && not (is_attribute z.content)) (y.number == z.number) (and-true _ _ h).0) [
      | inl a ↦ below j z e (and-true (has y.number z.above) (not (is_attribute z.content)) a).0
      | inr b ↦ itself-kept (λ q. meets DescendantOrSelf kind q.content) (λ q. meets-solid DescendantOrSelf kind q.content (by (is_kind kind) x)) j z e b (and-true _ _ h).1
    ]
      where
        by : (b : Bool) → not (b && true) ≡ true → b ≡ false
        by true i = sym i
        by false i = refl
    off Self_ kind x d j z e h = d
    off Parent kind x d j z e h = d
    off Ancestor kind x d j z e h = d
    off AncestorOrSelf kind x d j z e h = d
    off FollowingSibling kind x d j z e h = d
    off PrecedingSibling kind x d j z e h = d

    forward : (axis : Axis) (T : Visit → Bool) → not (goes_up axis || is_sibling axis) ≡ true → numbers_of (filter T (axis_from axis all (Some y))) ≡ numbers_of (filter T (filter (is_on axis y) all))
    forward Child T d = refl
    forward Attribute T d = refl
    forward Descendant T d = refl
    forward DescendantOrSelf T d = refl
    forward Self_ T d = no d
    forward Parent T d = no d
    forward Ancestor T d = no d
    forward AncestorOrSelf T d = no d
    forward FollowingSibling T d = no d
    forward PrecedingSibling T d = no d

    from-text : (axis : Axis) (test : Test) → not (is_kind test && meets_texts axis) ≡ true → not (goes_up axis || is_sibling axis) ≡ true → reached axis test all k ≡ []
    from-text axis test x d =
        ap (λ m. numbers_of (filter (λ q. meets axis test q.content) (axis_from axis all m))) at
        ∙ forward axis (λ q. meets axis test q.content) d
        ∙ ap numbers_of (sym (filter-and (λ q. meets axis test q.content) (is_on axis y) all))
        ∙ nothing-kept (λ q. is_on axis y q && meets axis test q.content) all v.apart (off axis test x d)

  pub none-reached : (k : ℕ) (axis : Axis) (test : Test) → not (is_kind test && meets_texts axis) ≡ true → not (goes_up axis || is_sibling axis) ≡ true → found k (untexted all) ≡ None → reached axis test all k ≡ []
  none-reached k axis test x d none = by (found k all) refl
    where
      by : (m : Option Visit) → found k all ≡ m → reached axis test all k ≡ []
      by None e = ap (λ m. numbers_of (filter (λ q. meets axis test q.content) (axis_from axis all m))) e
      by (Some y) e = from-text k none y e axis test x d

  -- ---- where `//` begins

  has-both : (k : ℕ) (ns ms : List ℕ) → has k (ns ++ ms) ≡ (has k ns || has k ms)
  has-both k [] ms = refl
  has-both k (n ∷ ns) ms = ap (λ b. (k == n) || b) (has-both k ns ms) ∙ by (k == n)
    where
      by : (b : Bool) → (b || (has k ns || has k ms)) ≡ ((b || has k ns) || has k ms)
      by true = refl
      by false = refl

  abbrev whole : ℕ → List ℕ
  whole n = reached DescendantOrSelf Node all n

  abbrev bare : ℕ → List ℕ
  bare n = reached DescendantOrSelf Node (untexted all) n

  has-kept : (p : Visit → Bool) (part : List Visit) → are_apart (numbers_of part) ≡ true → (k : ℕ) → has k (numbers_of (filter p part)) ≡ on p (found k part)
  has-kept p part a k = has-found k (filter p part) ∙ ap is_some (found-filter p k part a) ∙ by (found k part)
    where
      of : (z : Visit) (b : Bool) → is_some (cond b (Some z) None) ≡ b
      of z true = refl
      of z false = refl

      by : (m : Option Visit) → is_some (kept_if p m) ≡ on p m
      by None = refl
      by (Some z) = of z (p z)

  -- of a node that is no text it is the same whether texts are there
  solid-reached : (k : ℕ) (y : Visit) → found k (untexted all) ≡ Some y → (n : ℕ) (x : Visit) → found n (untexted all) ≡ Some x → has k (whole n) ≡ has k (bare n)
  solid-reached k y e n x i =
      ap (λ m. has k (numbers_of (filter (λ q. true) (axis_from DescendantOrSelf all m)))) (solid-found all v n x i).0
      ∙ ap (λ l. has k (numbers_of l)) (sym (filter-and (λ (q : Visit). true) (is_on DescendantOrSelf x) all))
      ∙ has-kept (λ q. is_on DescendantOrSelf x q && true) all v.apart k
      ∙ ap (on (λ q. is_on DescendantOrSelf x q && true)) ((solid-found all v k y e).0 ∙ sym e)
      ∙ sym (has-kept (λ q. is_on DescendantOrSelf x q && true) (untexted all) (bare-apart all v) k)
      ∙ ap (λ l. has k (numbers_of l)) (filter-and (λ (q : Visit). true) (is_on DescendantOrSelf x) (untexted all))
      ∙ sym (ap (λ m. has k (numbers_of (filter (λ q. true) (axis_from DescendantOrSelf (untexted all) m)))) i)

  solid-flat : (k : ℕ) (y : Visit) → found k (untexted all) ≡ Some y → (ns : List ℕ) → ((n : ℕ) → has n ns ≡ true → (x : Visit) × (found n (untexted all) ≡ Some x)) → has k (flat_map whole ns) ≡ has k (flat_map bare ns)
  solid-flat k y e [] h = refl
  solid-flat k y e (n ∷ ns) h =
      has-both k (whole n) (flat_map whole ns)
      ∙ ap (λ b. b || has k (flat_map whole ns)) (let x = h n (or-left (n == n) (has n ns) (self-same n)) in solid-reached k y e n x.0 x.1)
      ∙ ap (λ b. has k (bare n) || b) (solid-flat k y e ns (λ m i. h m (or-right (m == n) (has m ns) i)))
      ∙ sym (has-both k (bare n) (flat_map bare ns))

  abbrev pub is_there : ℕ → Bool
  is_there k = is_some (found k (untexted all))

  pub solid-starts : (ns : List ℕ) → ((n : ℕ) → has n ns ≡ true → (x : Visit) × (found n (untexted all) ≡ Some x)) →
      filter is_there (begun_at true all ns) ≡ in_order (untexted all) (flat_map (reached DescendantOrSelf Node (untexted all)) ns)
  solid-starts ns h =
      ap (filter is_there) (numbers-filter (λ x. has x.number (flat_map whole ns)) all v.apart)
      ∙ sym (filter-and is_there (λ k. on (λ x. has x.number (flat_map whole ns)) (found k all)) (numbers_of all))
      ∙ filter-same (λ k. on (λ x. has x.number (flat_map whole ns)) (found k all) && is_there k) (λ k. on (λ x. is_solid x && has x.number (flat_map bare ns)) (found k all)) (λ k. by k (found k all) refl) (numbers_of all)
      ∙ sym (numbers-filter (λ x. is_solid x && has x.number (flat_map bare ns)) all v.apart)
      ∙ ap numbers_of (filter-and (λ x. has x.number (flat_map bare ns)) is_solid all)
    where
      of : (k : ℕ) (y : Visit) (b : Bool) → found k all ≡ Some y → is_solid y ≡ b → (has y.number (flat_map whole ns) && is_some (cond b (Some y) None)) ≡ (b && has y.number (flat_map bare ns))
      of k y true e i =
          ap (λ m. has m (flat_map whole ns) && true) (found-number k all y e)
          ∙ ap (λ c. c && true) (solid-flat k y (found-in is_solid k all y v.apart e i) ns h)
          ∙ and-one (has k (flat_map bare ns))
          ∙ ap (λ m. has m (flat_map bare ns)) (sym (found-number k all y e))
        where
          and-one : (c : Bool) → (c && true) ≡ c
          and-one true = refl
          and-one false = refl
      of k y false e i = and-none (has y.number (flat_map whole ns))
        where
          and-none : (c : Bool) → (c && false) ≡ false
          and-none true = refl
          and-none false = refl

      by : (k : ℕ) (m : Option Visit) → found k all ≡ m → (on (λ x. has x.number (flat_map whole ns)) m && is_there k) ≡ on (λ x. is_solid x && has x.number (flat_map bare ns)) m
      by k None e = refl
      by k (Some y) e =
          ap (λ o. has y.number (flat_map whole ns) && is_some o) (found-filter is_solid k all v.apart ∙ ap (kept_if is_solid) e)
          ∙ ap (λ b. has y.number (flat_map whole ns) && is_some (cond b (Some y) None)) refl
          ∙ of k y (is_solid y) e refl

-- ---- over both forests and the shape

flat-same : (f g : ℕ → List ℕ) (ns : List ℕ) → ((n : ℕ) → has n ns ≡ true → f n ≡ g n) → flat_map f ns ≡ flat_map g ns
flat-same f g [] h = refl
flat-same f g (n ∷ ns) h = ap (λ l. l ++ flat_map f ns) (h n (or-left (n == n) (has n ns) (self-same n))) ∙ ap (λ l. g n ++ l) (flat-same f g ns (λ k i. h k (or-right (k == n) (has k ns) i)))

pub flat-has : (f : ℕ → List ℕ) (k : ℕ) (ns : List ℕ) → has k (flat_map f ns) ≡ true → (n : ℕ) × (has n ns ≡ true) × (has k (f n) ≡ true)
flat-has f k [] h = no h
flat-has f k (n ∷ ns) h = elim (has-append k (f n) (flat_map f ns) h) [
  | inl a ↦ (n, or-left (n == n) (has n ns) (self-same n), a)
  | inr b ↦ let m = flat-has f k ns b in (m.0, or-right (m.0 == n) (has m.0 ns) m.1, m.2)
]

pub flat-within : (f : ℕ → List ℕ) (n : ℕ) (ns : List ℕ) → has n ns ≡ true → (k : ℕ) → has k (f n) ≡ true → has k (flat_map f ns) ≡ true
flat-within f n [] h k i = no h
flat-within f n (m ∷ ms) h k i = elim (or-cases (n == m) (has n ms) h) [
  | inl a ↦ has-left k (f m) (flat_map f ms) (ap (λ x. has k (f x)) (sym (eqb-true n m a)) ∙ i)
  | inr b ↦ has-right k (f m) (flat_map f ms) (flat-within f n ms b k i)
]

flat-part : (f : ℕ → List ℕ) (m : ℕ → Bool) (ns : List ℕ) (k : ℕ) → has k (flat_map f (filter m ns)) ≡ true → has k (flat_map f ns) ≡ true
flat-part f m ns k h = let n = flat-has f k (filter m ns) h in flat-within f n.0 ns (has-filter m n.0 ns n.1) k n.2

kept_none : (s : Setting) (ms : List Meaning) → kept_by_all s ms [] ≡ Some []
kept_none s [] = refl
kept_none s (m ∷ ms) = kept_none s ms

module _ (w : Comparison) (ns : List ℕ) (solid : AllSolid w ns) (a : Agree w (flat_map (lists_below w.shape) ns)) where
  abbrev R : List ℕ
  R = flat_map (reached DescendantOrSelf Node (untexted w.shape)) ns

  reach_first : (n : ℕ) → has n ns ≡ true → Reach (untexted w.shape) (untexted w.setting.all) (reached DescendantOrSelf Node (untexted w.shape) n) (reached DescendantOrSelf Node (untexted w.setting.all) n)
  reach_first n h =
      let x : Solid w n = solid n h in
      reach w.frame (λ y. true) (lists_below w.shape n) (λ m i. a.first m (flat-within (lists_below w.shape) n ns h m i)) n x.visit x.in_shape x.in_first DescendantOrSelf
      (lists-untexted DescendantOrSelf w.shape w.shape_visits n x.visit x.in_shape)

  reach_second : (n : ℕ) → has n ns ≡ true → Reach (untexted w.shape) (untexted w.others) (reached DescendantOrSelf Node (untexted w.shape) n) (reached DescendantOrSelf Node (untexted w.others) n)
  reach_second n h =
      let x : Solid w n = solid n h in
      reach w.other_frame (λ y. true) (lists_below w.shape n) (λ m i. a.second m (flat-within (lists_below w.shape) n ns h m i)) n x.visit x.in_shape x.in_second DescendantOrSelf
      (lists-untexted DescendantOrSelf w.shape w.shape_visits n x.visit x.in_shape)

  R-solid : AllSolid w R
  R-solid k h =
      let n = flat-has (reached DescendantOrSelf Node (untexted w.shape)) k ns h in
      solid-both w k ((reach_first n.0 n.1).stand k n.2) ((reach_second n.0 n.1).stand k n.2)

  -- where the step begins, without the texts
  abbrev starts : List ℕ
  starts = filter (is_there w.shape w.shape_visits) (begun_at true w.shape ns)

  starts-shape : starts ≡ in_order (untexted w.shape) R
  starts-shape = solid-starts w.shape w.shape_visits ns (λ n h. ((solid n h).visit, (solid n h).in_shape))

  starts-first : filter (is_there w.setting.all w.visits) (begun_at true w.setting.all ns) ≡ starts
  starts-first =
      solid-starts w.setting.all w.visits ns (λ n h. ((solid n h).visit, (solid n h).in_first))
      ∙ ap (in_order (untexted w.setting.all)) (sym (flat-same (reached DescendantOrSelf Node (untexted w.shape)) (reached DescendantOrSelf Node (untexted w.setting.all)) ns (λ n h. (reach_first n h).same)))
      ∙ sym (in_order-framed w.frame R (λ k h. record { visit = (R-solid k h).visit; first = (R-solid k h).in_shape; second = (R-solid k h).in_first }))
      ∙ sym starts-shape

  starts-second : filter (is_there w.others w.other_visits) (begun_at true w.others ns) ≡ starts
  starts-second =
      solid-starts w.others w.other_visits ns (λ n h. ((solid n h).visit, (solid n h).in_second))
      ∙ ap (in_order (untexted w.others)) (sym (flat-same (reached DescendantOrSelf Node (untexted w.shape)) (reached DescendantOrSelf Node (untexted w.others)) ns (λ n h. (reach_second n h).same)))
      ∙ sym (in_order-framed w.other_frame R (λ k h. record { visit = (R-solid k h).visit; first = (R-solid k h).in_shape; second = (R-solid k h).in_second }))
      ∙ sym starts-shape

  starts-solid : AllSolid w starts
  starts-solid k h =
      let y = kept-found (λ x. has x.number R) k (untexted w.shape) (bare-apart w.shape w.shape_visits) (ap (has k) (sym starts-shape) ∙ h) in
      R-solid k (ap (λ m. has m R) (sym (found-number k (untexted w.shape) y.0 y.1)) ∙ y.2)

  module _ (axis : Axis) (test : Test) (ps : List ((m : Meaning) × Placed w m)) (exact : not (is_kind test && meets_texts axis) ≡ true) (down : not (goes_up axis || is_sibling axis) ≡ true)
      (b : Agree w (flat_map (lists_of axis w.shape) (begun_at true w.shape ns))) where
    abbrev plain : List Meaning
    plain = map (λ (p : (m : Meaning) × Placed w m). p.0) ps

    absent : (all : List Visit) (k : ℕ) → is_some (found k (untexted all)) ≡ false → found k (untexted all) ≡ None
    absent all k h = by (found k (untexted all)) h
      where
        by : (m : Option Visit) → is_some m ≡ false → m ≡ None
        by None i = refl
        by (Some x) i = no (sym i)

    none-from : (s : Setting) → AreVisits s.all → (k : ℕ) → is_some (found k (untexted s.all)) ≡ false → from_one axis test plain s k ≡ Some []
    none-from s v k h = ap (kept_by_all s plain) (none-reached s.all v k axis test exact down (absent s.all k h)) ∙ kept_none s plain

    abbrev Below : List ℕ → Type 0
    Below ks = (ks ≡ in_order w.shape (flat_map (λ n. unwrap_or (from_one axis test plain (over_shape w) n) []) (begun_at true w.shape ns))) × AllSolid w ks

    pub below-agree : Gives Below (option_map (in_order w.setting.all) (gathered (from_one axis test plain w.setting) (begun_at true w.setting.all ns)))
        (option_map (in_order w.others) (gathered (from_one axis test plain (other w)) (begun_at true w.others ns)))
    below-agree =
        gives-at
        (ap (option_map (in_order w.setting.all)) (gathered-without (from_one axis test plain w.setting) (is_there w.setting.all w.visits) (begun_at true w.setting.all ns) (λ n i h. none-from w.setting w.visits n h) ∙ ap (gathered (from_one axis test plain w.setting)) starts-first))
        (ap (option_map (in_order w.others)) (gathered-without (from_one axis test plain (other w)) (is_there w.others w.other_visits) (begun_at true w.others ns) (λ n i h. none-from (other w) w.other_visits n h) ∙ ap (gathered (from_one axis test plain (other w))) starts-second))
        (gives-weaker (step-agree w axis test ps exact starts starts-solid (agree-less w (flat-part (lists_of axis w.shape) (is_there w.shape w.shape_visits) (begun_at true w.shape ns)) b))
        (λ ks p. (
          p.0 ∙ ap (in_order w.shape) (sym (flat-without (λ n. unwrap_or (from_one axis test plain (over_shape w) n) []) (is_there w.shape w.shape_visits) (begun_at true w.shape ns)
              (λ n i h. ap (λ m. unwrap_or m []) (none-from (over_shape w) w.shape_visits n h)))),
          p.1,
        )))

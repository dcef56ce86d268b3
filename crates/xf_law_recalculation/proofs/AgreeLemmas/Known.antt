-- Which nodes a step meets: where it tells texts apart, known ones alone; and nothing from a text that is not known.
use Rattle.std.proofs.Common.{◌≡◌, ℕ, ◌==◌, Bool, true, false, not, cond, ◌&&◌, ◌||◌, List, [], ◌∷◌, Some, None, unwrap_or, refl, sym, ap, ◌∙◌, inl, inr}
use Rattle.std.specs.Prelude.{filter, is_some}
use Rattle.std.proofs.lemmas.Bool.{eqb-true}
use Rattle.xf_name.specs.declared.axis.Axis.{Axis}
use Rattle.xf_name.specs.declared.axis.Axis.TheVariants.{Child, Attribute, Self_, Parent, Ancestor, AncestorOrSelf, Descendant, DescendantOrSelf, FollowingSibling, PrecedingSibling}
use Rattle.xf_def_syntax.specs.declared.expr.Test.{Test}
use Rattle.xf_def_forest.specs.declared.content.Content.{Content}
use Rattle.xf_def_forest.specs.declared.content.Content.TheVariants as content
use Rattle.xf_def_forest.specs.Forest.{is_text, is_element, is_attribute}
use Rattle.xf_def_forest.specs.Visit.{Visit, has, is_first, same_parent, first_of}
use Rattle.xf_def_forest.specs.Axis.{is_on}
use Rattle.xf_def_forest.specs.Shape.{text_number}
use Rattle.xf_def_forest.proofs.BackLaws.{and-true}
use Rattle.xf_def_xpath.specs.Tests.{meets}
use Rattle.xf_def_xpath.specs.Asked.{found, as_list, parent_in, list_around, lists_below, reader_of, read_for}
use Rattle.xf_def_xpath.specs.AskedSteps.{lists_of, kind_read, is_kind, meets_texts, goes_up}
use Rattle.xf_def_xpath.specs.Steps.{reached}
use Rattle.xf_def_xpath.specs.Agree.{AreVisits}
use Rattle.xf_def_xpath.proofs.VisitFacts.{self-same, or-cases, or-left, or-right, no, some-same, none-some, found-number, present, found-in, found-out}
use Rattle.xf_def_xpath.proofs.UntextedLaws.{meets-solid, solid-found}
use Rattle.xf_def_xpath.proofs.Comparison.{Comparison, Within}
use Rattle.xf_law_recalculation.specs.Agree.Settles.{AreHung}
use Rattle.xf_law_recalculation.proofs.AgreeLemmas.Covers.{stand_in, has-head, above-solid, cov-solid, solid-stays, stays-found, solid-reader, around-has, reached-in, range-found}
use Rattle.xf_law_recalculation.proofs.AgreeLemmas.Meeting.{Meeting, is_known, keeps, kept}

not-of : (b : Bool) → not b ≡ true → b ≡ false
not-of true h = sym h
not-of false h = refl

attribute-text : (c : Content) → is_attribute c ≡ true → is_text c ≡ true → false ≡ true
attribute-text content.Root h t = h
attribute-text (content.Element name) h t = h
attribute-text (content.Attribute name text) h t = t
attribute-text (content.Text text) h t = h

element-solid : (c : Content) → is_element c ≡ true → is_text c ≡ false
element-solid content.Root h = refl
element-solid (content.Element name) h = refl
element-solid (content.Attribute name text) h = refl
element-solid (content.Text text) h = no h

-- a text is met by a test that tells kinds alone
pub kind-met : (axis : Axis) (test : Test) (c : Content) → is_text c ≡ true → meets axis test c ≡ true → is_kind test ≡ true
kind-met axis test c t h = by (is_kind test) refl
  where
    by : (b : Bool) → is_kind test ≡ b → b ≡ true
    by true i = refl
    by false i = no (sym (ap not t) ∙ meets-solid axis test c i h)

-- a node that stands above another is no text
pub above-text : (all : List Visit) → AreVisits all → (n : ℕ) (x : Visit) → found n all ≡ Some x → (k : ℕ) (y : Visit) → found k all ≡ Some y → has k x.above ≡ true → is_text y.content ≡ true → false ≡ true
above-text all v n x e k y i h t =
    let z = above-solid all v n x e k h in
    let out = solid-found all v k z.0 z.1 in
    sym (ap not t) ∙ ap (λ (q : Visit). not (is_text q.content)) (some-same (sym i ∙ out.0)) ∙ out.1

-- the forest from which a step is taken is the first, or the other
pub record Side (w : Comparison) (m : Meeting w) : Type 0 where
  pub all : List Visit
  pub visits : AreVisits all
  pub hung : AreHung all
  -- what stands in the first, as far as lists are looked at
  pub back : (n : ℕ) (x : Visit) → found n (kept m.known w.setting.all) ≡ Some x → found n (kept m.known all) ≡ Some x → Within (lists_below w.shape n) m.looks →
      (q : ℕ) (z : Visit) → found q (kept m.known all) ≡ Some z → has n z.above ≡ true → found q (kept m.known w.setting.all) ≡ Some z
  pub child_back : (q : ℕ) → has q m.looks ≡ true → (k : ℕ) (y : Visit) → found k (kept m.known all) ≡ Some y → is_first q y.above ≡ true → found k (kept m.known w.setting.all) ≡ Some y

pub nil-of : (ns : List ℕ) → ((k : ℕ) → has k ns ≡ true → false ≡ true) → ns ≡ []
nil-of [] h = refl
nil-of (n ∷ ns) h = no (h n (or-left (n == n) (has n ns) (self-same n)))

-- both have the same parent
pub parent-of : (xs ys : List ℕ) → same_parent xs ys ≡ true → (p : ℕ) × (ps : List ℕ) × (xs ≡ p ∷ ps) × (is_first p ys ≡ true)
parent-of [] ys h = no h
parent-of (p ∷ ps) ys h = (p, ps, refl, h)

pub first-same : (p q : ℕ) (ns qs : List ℕ) → ns ≡ q ∷ qs → is_first p ns ≡ true → p ≡ q
first-same p q [] qs e h = no h
first-same p q (n ∷ ns) qs e h = eqb-true p n h ∙ cc e

module _ {w : Comparison} (m : Meeting w) (d : Side w m) (n : ℕ) (x : Visit) (ka : found n (kept m.known w.setting.all) ≡ Some x) (kx : found n (kept m.known d.all) ≡ Some x) where
  abbrev A : List Visit
  A = w.setting.all

  abbrev U : List Visit
  U = w.shape

  whole : (k : ℕ) (y : Visit) → found k (kept m.known d.all) ≡ Some y → (found k d.all ≡ Some y) × (keeps m.known y ≡ true)
  whole k y e = found-out (keeps m.known) k d.all y d.visits.apart e

  whole-first : (k : ℕ) (y : Visit) → found k (kept m.known A) ≡ Some y → found k A ≡ Some y
  whole-first k y e = (found-out (keeps m.known) k A y w.visits.apart e).0

  in_all : found n d.all ≡ Some x
  in_all = (whole n x kx).0

  in_first : found n A ≡ Some x
  in_first = whole-first n x ka

  named : x.number ≡ n
  named = found-number n d.all x in_all

  solid-kept : (k : ℕ) (y : Visit) → found k d.all ≡ Some y → is_text y.content ≡ false → found k (kept m.known d.all) ≡ Some y
  solid-kept k y e t = found-in (keeps m.known) k d.all y d.visits.apart e (ap (λ b. not b || is_known m.known y.above) t)

  keeps-of : (y : Visit) (q : ℕ) (qs : List ℕ) → y.above ≡ q ∷ qs → m.known q ≡ true → keeps m.known y ≡ true
  keeps-of y q qs e h = or-right (not (is_text y.content)) (is_known m.known y.above) (ap (is_known m.known) e ∙ h)

  -- it is no text where something stands below it
  solid-above : (k : ℕ) (y : Visit) → found k d.all ≡ Some y → has n y.above ≡ true → is_text x.content ≡ false
  solid-above k y e h = by (is_text x.content) refl
    where
      by : (b : Bool) → is_text x.content ≡ b → b ≡ false
      by true t = sym (above-text d.all d.visits k y e n x in_all h t)
      by false t = refl

  -- an element at or below it in the first forest
  element-first : Within (lists_below U n) m.looks → (q : ℕ) (z : Visit) → found q d.all ≡ Some z → is_element z.content ≡ true → has n (q ∷ z.above) ≡ true → found q A ≡ Some z
  element-first looks q z e el h = elim (or-cases (n == q) (has n z.above) h) [
    | inl a ↦ let same : x ≡ z = some-same (sym in_all ∙ ap (λ k. found k d.all) (eqb-true n q a) ∙ e) in ap (λ k. found k A) (sym (eqb-true n q a)) ∙ in_first ∙ ap Some same
    | inr b ↦ whole-first q z (d.back n x ka kx looks q z (solid-kept q z e (element-solid z.content el)) b)
  ]

  -- a text below it is known where it is read
  known-below : has n m.reads ≡ true → Within (lists_below U n) m.looks → (k : ℕ) (y : Visit) → found k d.all ≡ Some y → is_text y.content ≡ true → has n y.above ≡ true → keeps m.known y ≡ true
  known-below read looks k y e t h =
      let p = d.hung k y e t in
      let below : has n (p.0 ∷ p.1.above) ≡ true = ap (has n) (sym p.4) ∙ h in
      keeps-of y p.0 p.1.above p.4 (m.read n p.0 p.1 read (element-first looks p.0 p.1 p.2 p.3 below) (element-solid p.1.content p.3) below)

  known-child : has n m.reads ≡ true → is_text x.content ≡ false → (k : ℕ) (y : Visit) → found k d.all ≡ Some y → is_text y.content ≡ true → is_first n y.above ≡ true → keeps m.known y ≡ true
  known-child read solid k y e t h =
      let p = d.hung k y e t in
      let same : n ≡ p.0 = first-same n p.0 y.above p.1.above p.4 h in
      keeps-of y p.0 p.1.above p.4 (ap m.known (sym same) ∙ m.read n n x read in_first solid (or-left (n == n) (has n x.above) (self-same n)))

  known-beside : Within (kind_read FollowingSibling U (stand_in m.texts x)) m.reads → (k : ℕ) (y : Visit) → found k d.all ≡ Some y → is_text y.content ≡ true → same_parent x.above y.above ≡ true → keeps m.known y ≡ true
  known-beside read k y e t h =
      let p = d.hung k y e t in
      let o = parent-of x.above y.above h in
      let same : o.0 ≡ p.0 = first-same o.0 p.0 y.above p.1.above p.4 o.3 in
      let z = above-solid A w.visits n x in_first o.0 (ap (has o.0) o.2 ∙ or-left (o.0 == o.0) (has o.0 o.1) (self-same o.0)) in
      keeps-of y p.0 p.1.above p.4 (ap m.known (sym same)
      ∙ m.read o.0 o.0 z.0 (read o.0 (around-has m.shaped n x in_first o.0 o.1 o.2)) (solid-found A w.visits o.0 z.0 z.1).0 (not-of (is_text z.0.content) (solid-found A w.visits o.0 z.0 z.1).1) (or-left (o.0 == o.0) (has o.0 z.0.above) (self-same o.0)))

  -- what a step from the node reads, where it tells texts apart, and looks at
  pub record Reading (axis : Axis) (test : Test) : Type 0 where
    pub kinds : is_kind test ≡ true → meets_texts axis ≡ true → Within (kind_read axis U (stand_in m.texts x)) m.reads
    pub lists : Within (lists_of axis U (stand_in m.texts x)) m.looks

  own-read : is_text x.content ≡ false → Within (read_for U (stand_in m.texts x)) m.reads → has n m.reads ≡ true
  own-read t h = h n (solid-reader m.shaped n x in_first t)

  own-looks : is_text x.content ≡ false → Within (lists_below U (stand_in m.texts x)) m.looks → Within (lists_below U n) m.looks
  own-looks t h k i = h k (ap (λ j. has k (lists_below U j)) (cov-solid m.shaped x t ∙ named) ∙ i)

  met-text : (axis : Axis) (test : Test) → Reading axis test → (k : ℕ) (y : Visit) → found k d.all ≡ Some y → is_on axis x y ≡ true → meets axis test y.content ≡ true → is_text y.content ≡ true → keeps m.known y ≡ true
  met-text Child kind r k y e on met t =
      let first : is_first n y.above ≡ true = ap (λ j. is_first j y.above) (sym named) ∙ (and-true (is_first x.number y.above) (not (is_attribute y.content)) on).0 in
      let solid = solid-above k y e (has-head n y.above first) in
      known-child (own-read solid (r.kinds (kind-met Child kind y.content t met) refl)) solid k y e t first
  met-text Attribute kind r k y e on met t = no (attribute-text y.content (and-true (is_first x.number y.above) (is_attribute y.content) on).1 t)
  met-text Self_ kind r k y e on met t =
      let same : x ≡ y = some-same (sym in_all ∙ ap (λ j. found j d.all) (sym named ∙ eqb-true x.number y.number on ∙ found-number k d.all y e) ∙ e) in
      ap (keeps m.known) (sym same) ∙ (whole n x kx).1
  met-text Parent kind r k y e on met t = no (above-text d.all d.visits n x in_all k y e (ap (λ j. has j x.above) (sym (found-number k d.all y e)) ∙ has-head y.number x.above on) t)
  met-text Ancestor kind r k y e on met t = no (above-text d.all d.visits n x in_all k y e (ap (λ j. has j x.above) (sym (found-number k d.all y e)) ∙ on) t)
  met-text AncestorOrSelf kind r k y e on met t = elim (or-cases (has y.number x.above) (x.number == y.number) on) [
    | inl a ↦ no (above-text d.all d.visits n x in_all k y e (ap (λ j. has j x.above) (sym (found-number k d.all y e)) ∙ a) t)
    | inr b ↦ let same : x ≡ y = some-same (sym in_all ∙ ap (λ j. found j d.all) (sym named ∙ eqb-true x.number y.number b ∙ found-number k d.all y e) ∙ e) in
        ap (keeps m.known) (sym same) ∙ (whole n x kx).1
  ]
  met-text Descendant kind r k y e on met t =
      let below : has n y.above ≡ true = ap (λ j. has j y.above) (sym named) ∙ (and-true (has x.number y.above) (not (is_attribute y.content)) on).0 in
      let solid = solid-above k y e below in
      known-below (own-read solid (r.kinds (kind-met Descendant kind y.content t met) refl)) (own-looks solid r.lists) k y e t below
  met-text DescendantOrSelf kind r k y e on met t = elim (or-cases (has x.number y.above && not (is_attribute y.content)) (x.number == y.number) on) [
    | inl a ↦
        let below : has n y.above ≡ true = ap (λ j. has j y.above) (sym named) ∙ (and-true (has x.number y.above) (not (is_attribute y.content)) a).0 in
        let solid = solid-above k y e below in
        known-below (own-read solid (r.kinds (kind-met DescendantOrSelf kind y.content t met) refl)) (own-looks solid r.lists) k y e t below
    | inr b ↦ let same : x ≡ y = some-same (sym in_all ∙ ap (λ j. found j d.all) (sym named ∙ eqb-true x.number y.number b ∙ found-number k d.all y e) ∙ e) in
        ap (keeps m.known) (sym same) ∙ (whole n x kx).1
  ]
  met-text FollowingSibling kind r k y e on met t = known-beside (r.kinds (kind-met FollowingSibling kind y.content t met) refl) k y e t (and-true _ _ (and-true _ _ on).0).0
  met-text PrecedingSibling kind r k y e on met t = known-beside (r.kinds (kind-met PrecedingSibling kind y.content t met) refl) k y e t (and-true _ _ (and-true _ _ on).0).0

  -- all that a step meets is known
  pub met-known : (axis : Axis) (test : Test) → Reading axis test → (k : ℕ) (y : Visit) → found k d.all ≡ Some y → (is_on axis x y && meets axis test y.content) ≡ true → keeps m.known y ≡ true
  met-known axis test r k y e h = by (is_text y.content) refl
    where
      by : (b : Bool) → is_text y.content ≡ b → keeps m.known y ≡ true
      by true t = met-text axis test r k y e (and-true (is_on axis x y) (meets axis test y.content) h).0 (and-true (is_on axis x y) (meets axis test y.content) h).1 t
      by false t = ap (λ b. not b || is_known m.known y.above) t

  -- ---- a text below it that is not known

  module _ (looks : Within (lists_below U n) m.looks) (k : ℕ) (y : Visit) (at : found k d.all ≡ Some y) (off : found k (kept m.known d.all) ≡ None) (below : has n y.above ≡ true) where
    pub text : is_text y.content ≡ true
    text = by (is_text y.content) refl
      where
        by : (b : Bool) → is_text y.content ≡ b → b ≡ true
        by true t = refl
        by false t = none-some (sym off ∙ solid-kept k y at t)

    abbrev pub parent : (q : ℕ) × (z : Visit) × (found q d.all ≡ Some z) × (is_element z.content ≡ true) × (y.above ≡ q ∷ z.above)
    parent = d.hung k y at text

    abbrev q : ℕ
    q = parent.0

    abbrev z : Visit
    z = parent.1

    under : has n (q ∷ z.above) ≡ true
    under = ap (has n) (sym parent.4) ∙ below

    z-first : found q A ≡ Some z
    z-first = element-first looks q z parent.2 parent.3 under

    unknown : m.known q ≡ true → false ≡ true
    unknown h = none-some (sym off ∙ found-in (keeps m.known) k d.all y d.visits.apart at (keeps-of y q z.above parent.4 h))

    q-read : has q m.reads ≡ true → false ≡ true
    q-read h = unknown (m.read q q z h z-first (element-solid z.content parent.3) (or-left (q == q) (has q z.above) (self-same q)))

    q-looked : has q m.looks ≡ true
    q-looked = elim (or-cases (n == q) (has n z.above) under) [
      | inl a ↦ ap (λ j. has j m.looks) (sym (eqb-true n q a)) ∙ looks n (or-left (n == n) _ (self-same n))
      | inr b ↦
          let in_shape = stays-found m.shaped q z z-first (solid-stays m.shaped z (element-solid z.content parent.3)) in
          looks q (or-right (q == n) _ (present q (filter (λ v. has n v.above) U) z (found-in (λ v. has n v.above) q U z w.shape_visits.apart in_shape b)))
    ]

    replaced : is_some (m.texts q) ≡ true
    replaced = by (is_some (m.texts q)) refl
      where
        by : (b : Bool) → is_some (m.texts q) ≡ b → b ≡ true
        by true h = refl
        by false h = no (unknown (m.looked q q-looked h))

    -- the text that stands for it in the shape
    pub one : (t : Visit) × (found (text_number q) U ≡ Some t) × (is_text t.content ≡ true) × (t.above ≡ q ∷ z.above)
    one = m.shaped.one q z z-first parent.3 replaced

    one-read : has q (read_for U (text_number q)) ≡ true
    one-read =
        ap (λ o. has q (reader_of o)) one.1 ∙ ap (λ b. has q (cond b (unwrap_or (first_of one.0.above) one.0.number) one.0.number ∷ [])) one.2
        ∙ ap (λ ns. has q (unwrap_or (first_of ns) one.0.number ∷ [])) one.3 ∙ or-left (q == q) false (self-same q)

    one-around : has q (list_around U (text_number q)) ≡ true
    one-around = ap (λ o. has q (parent_in o)) one.1 ∙ ap (λ ns. has q (as_list (first_of ns))) one.3 ∙ or-left (q == q) false (self-same q)

    module _ (axis : Axis) (test : Test) (ups : goes_up axis ≡ true → has n m.reads ≡ true) (kinds : is_kind test ≡ true → meets_texts axis ≡ true → Within (kind_read axis U (text_number q)) m.reads) where
      y-named : y.number ≡ k
      y-named = found-number k d.all y at

      n-read : has n m.reads ≡ true → false ≡ true
      n-read h = unknown (m.read n q z h z-first (element-solid z.content parent.3) under)

      off-below : (j : ℕ) (v : Visit) → found j d.all ≡ Some v → has y.number v.above ≡ true → false ≡ true
      off-below j v e h = above-text d.all d.visits j v e k y at (ap (λ i. has i v.above) (sym y-named) ∙ h) text

      off-beside : (c : Axis) → meets_texts c ≡ true → ((is_kind test ≡ true → meets_texts c ≡ true → has q m.reads ≡ true)) → (j : ℕ) (v : Visit) → found j d.all ≡ Some v →
          (same_parent y.above v.above && not (is_attribute y.content) && not (is_attribute v.content)) ≡ true → meets c test v.content ≡ true → false ≡ true
      off-beside c mt reads j v e on met = by (is_text v.content) refl
        where
          parts : ((same_parent y.above v.above && not (is_attribute y.content)) ≡ true) × (not (is_attribute v.content) ≡ true)
          parts = and-true (same_parent y.above v.above && not (is_attribute y.content)) (not (is_attribute v.content)) on

          beside : same_parent y.above v.above ≡ true
          beside = (and-true (same_parent y.above v.above) (not (is_attribute y.content)) parts.0).0

          first : is_first q v.above ≡ true
          first = let o = parent-of y.above v.above beside in let same : o.0 ≡ q = cc (sym o.2 ∙ parent.4) in ap (λ i. is_first i v.above) (sym same) ∙ o.3

          by : (b : Bool) → is_text v.content ≡ b → false ≡ true
          by true t = q-read (reads (kind-met c test v.content t met) mt)
          by false t =
              let in_a = whole-first j v (d.child_back q q-looked j v (solid-kept j v e t) first) in
              elim (or-cases (is_text v.content) (is_attribute v.content) (m.shaped.only j q v in_a first replaced)) [
                | inl a ↦ sym t ∙ a
                | inr b ↦ sym (ap not b) ∙ parts.1
              ]

      off-all : (c : Axis) → axis ≡ c → (j : ℕ) (v : Visit) → found j d.all ≡ Some v → is_on c y v ≡ true → meets c test v.content ≡ true → false ≡ true
      off-all Child i j v e on met = off-below j v e (has-head y.number v.above (and-true (is_first y.number v.above) (not (is_attribute v.content)) on).0)
      off-all Attribute i j v e on met = off-below j v e (has-head y.number v.above (and-true (is_first y.number v.above) (is_attribute v.content) on).0)
      off-all Self_ i j v e on met = n-read (ups (ap goes_up i))
      off-all Parent i j v e on met = n-read (ups (ap goes_up i))
      off-all Ancestor i j v e on met = n-read (ups (ap goes_up i))
      off-all AncestorOrSelf i j v e on met = n-read (ups (ap goes_up i))
      off-all Descendant i j v e on met = off-below j v e (and-true (has y.number v.above) (not (is_attribute v.content)) on).0
      off-all DescendantOrSelf i j v e on met = elim (or-cases (has y.number v.above && not (is_attribute v.content)) (y.number == v.number) on) [
        | inl a ↦ off-below j v e (and-true (has y.number v.above) (not (is_attribute v.content)) a).0
        | inr b ↦
            let same : y ≡ v = some-same (sym at ∙ ap (λ l. found l d.all) (sym y-named ∙ eqb-true y.number v.number b ∙ found-number j d.all v e) ∙ e) in
            let t : is_text v.content ≡ true = ap (λ (o : Visit). is_text o.content) (sym same) ∙ text in
            q-read (kinds (kind-met DescendantOrSelf test v.content t met) (ap meets_texts i) q (ap (λ c. has q (kind_read c U (text_number q))) i ∙ one-read))
      ]
      off-all FollowingSibling i j v e on met = off-beside FollowingSibling refl (λ a b. kinds a (ap meets_texts i ∙ b) q (ap (λ c. has q (kind_read c U (text_number q))) i ∙ one-around)) j v e on met
      off-all PrecedingSibling i j v e on met = off-beside PrecedingSibling refl (λ a b. kinds a (ap meets_texts i ∙ b) q (ap (λ c. has q (kind_read c U (text_number q))) i ∙ one-around)) j v e on met

      -- from it a step gives nothing
      pub none-from : reached axis test d.all k ≡ []
      none-from = nil-of (reached axis test d.all k) (λ j h.
          let v = reached-in d.all d.visits.apart axis test k y at j h in
          off-all axis refl j v.0 (range-found d.all d.visits.apart axis y.number j v.0 v.1) v.2 v.3)

-- How a node of a forest stands in its shape: itself, or for a text of an element without element children the one text of that element.
-- What a step reaches from a node, it reaches in the shape from what stands for it.
use Rattle.std.proofs.Common.{◌≡◌, ℕ, ◌==◌, Bool, true, false, not, cond, ◌&&◌, ◌||◌, List, [], ◌∷◌, map, reverse, Option, Some, None, option_map, unwrap_or, refl, sym, ap, ◌∙◌, subst, inl, inr}
use Rattle.std.specs.Prelude.{filter, is_some}
use Rattle.std.proofs.lemmas.List.{reverse-append}
use Rattle.std.proofs.lemmas.Bool.{eqb-true}
use Rattle.xf_name.specs.declared.axis.Axis.{Axis}
use Rattle.xf_name.specs.declared.axis.Axis.TheVariants.{Child, Attribute, Self_, Parent, Ancestor, AncestorOrSelf, Descendant, DescendantOrSelf, FollowingSibling, PrecedingSibling}
use Rattle.xf_def_syntax.specs.declared.expr.Test.{Test}
use Rattle.xf_def_syntax.specs.declared.expr.Test.TheVariants.{Name, InSpace, AnyName, Text, Node, Nothing}
use Rattle.xf_def_forest.specs.declared.content.Content.{Content}
use Rattle.xf_def_forest.specs.declared.content.Content.TheVariants as content
use Rattle.xf_def_forest.specs.Forest.{is_text, is_element, is_attribute}
use Rattle.xf_def_forest.specs.Visit.{Visit, has, is_first, same_parent, first_of}
use Rattle.xf_def_forest.specs.Axis.{before, after, is_on, in_range, on_axis, are_siblings, is_reverse, axis_from}
use Rattle.xf_def_forest.specs.Shape.{Texts, text_number, is_replaced, is_gone}
use Rattle.xf_def_forest.proofs.BackLaws.{and-true}
use Rattle.xf_def_forest.proofs.OrderLaws.{Sub, sub-all, filter-sub, map-sub, sub-different}
use Rattle.xf_def_forest.proofs.RenumberLaws.{map-reverse}
use Rattle.xf_def_xpath.specs.Tests.{meets}
use Rattle.xf_def_xpath.specs.Asked.{found, parent_in, list_around, reader_of, read_for}
use Rattle.xf_def_xpath.specs.AskedSteps.{is_kind, meets_texts, if_text, text_beside}
use Rattle.xf_def_xpath.specs.Steps.{reached}
use Rattle.xf_def_xpath.specs.Agree.{numbers_of, are_apart, untexted, AreVisits}
use Rattle.xf_def_xpath.specs.Exact.{is_sibling}
use Rattle.xf_def_xpath.proofs.VisitFacts.{self-same, or-cases, or-left, or-right, no, some-same, none-some, filter-reverse, found-number, present, found-in, found-out}
use Rattle.xf_def_xpath.proofs.SameKept.{kept-found, has-left, has-right, has-reverse}
use Rattle.xf_def_xpath.proofs.AxisAgree.{above-stands, filter-after, filter-before, after-sub, before-sub}
use Rattle.xf_def_xpath.proofs.UntextedLaws.{itself, meets-solid, solid-found}
use Rattle.xf_def_xpath.proofs.ForestVisits.{self-found, each-found}
use Rattle.xf_law_recalculation.proofs.AgreeLemmas.Parts.{each-range}

-- ---- what a step reaches, by members

has-reversed : (k : ℕ) (ns : List ℕ) → has k ns ≡ true → has k (reverse ns) ≡ true
has-reversed k [] h = h
has-reversed k (n ∷ ns) h =
    ap (has k) (reverse-append (n ∷ []) ns)
    ∙ elim (or-cases (k == n) (has k ns) h) [ inl a ↦ has-right k (reverse ns) (n ∷ []) (or-left (k == n) false a) | inr b ↦ has-left k (reverse ns) (n ∷ []) (has-reversed k ns b) ]

range-sub : (axis : Axis) (n : ℕ) (all : List Visit) → Sub (in_range axis n all) all
range-sub Child n all = sub-all all
range-sub Attribute n all = sub-all all
range-sub Self_ n all = sub-all all
range-sub Parent n all = sub-all all
range-sub Ancestor n all = sub-all all
range-sub AncestorOrSelf n all = sub-all all
range-sub Descendant n all = sub-all all
range-sub DescendantOrSelf n all = sub-all all
range-sub FollowingSibling n all = after-sub n all
range-sub PrecedingSibling n all = before-sub n all

module _ (all : List Visit) (apart : are_apart (numbers_of all) ≡ true) where
  range-apart : (axis : Axis) (n : ℕ) → are_apart (numbers_of (in_range axis n all)) ≡ true
  range-apart axis n = sub-different (map-sub (λ (y : Visit). y.number) (range-sub axis n all)) apart

  pub range-found : (axis : Axis) (n m : ℕ) (y : Visit) → found m (in_range axis n all) ≡ Some y → found m all ≡ Some y
  range-found axis n m y e =
      ap (λ k. found k all) (sym (found-number m (in_range axis n all) y e))
      ∙ each-found (λ z. found z.number all ≡ Some z) m (in_range axis n all) y (each-range (λ z. found z.number all ≡ Some z) axis n all (self-found all apart)) e

  module _ (axis : Axis) (test : Test) (n : ℕ) (x : Visit) (e : found n all ≡ Some x) where
    abbrev met : Visit → Bool
    met y = is_on axis x y && meets axis test y.content

    unreversed : (r : Bool) (part : List Visit) (m : ℕ) → has m (map (λ (y : Visit). y.number) (filter (λ y. meets axis test y.content) (cond r (reverse part) part))) ≡ true → has m (numbers_of (filter (λ y. meets axis test y.content) part)) ≡ true
    unreversed true part m h = has-reverse m (numbers_of (filter (λ y. meets axis test y.content) part))
        (ap (has m) (sym (ap numbers_of (filter-reverse (λ y. meets axis test y.content) part) ∙ map-reverse (λ (y : Visit). y.number) (filter (λ y. meets axis test y.content) part))) ∙ h)
    unreversed false part m h = h

    rereversed : (r : Bool) (part : List Visit) (m : ℕ) → has m (numbers_of (filter (λ y. meets axis test y.content) part)) ≡ true → has m (map (λ (y : Visit). y.number) (filter (λ y. meets axis test y.content) (cond r (reverse part) part))) ≡ true
    rereversed true part m h =
        ap (has m) (ap numbers_of (filter-reverse (λ y. meets axis test y.content) part) ∙ map-reverse (λ (y : Visit). y.number) (filter (λ y. meets axis test y.content) part))
        ∙ has-reversed m (numbers_of (filter (λ y. meets axis test y.content) part)) h
    rereversed false part m h = h

    pub reached-in : (m : ℕ) → has m (reached axis test all n) ≡ true → (y : Visit) × (found m (in_range axis x.number all) ≡ Some y) × (is_on axis x y ≡ true) × (meets axis test y.content ≡ true)
    reached-in m h =
        let part = on_axis axis all x in
        let i : has m (numbers_of (filter (λ y. meets axis test y.content) part)) ≡ true =
        unreversed (is_reverse axis) part m (ap (λ o. has m (numbers_of (filter (λ y. meets axis test y.content) (axis_from axis all o)))) (sym e) ∙ h) in
        let ranged = range-apart axis x.number in
        let y = kept-found (λ z. meets axis test z.content) m part (sub-different (map-sub (λ (z : Visit). z.number) (filter-sub (is_on axis x) (in_range axis x.number all))) ranged) i in
        let z = found-out (is_on axis x) m (in_range axis x.number all) y.0 ranged y.1 in
        (y.0, z.0, z.1, y.2)

    pub reached-has : (m : ℕ) (y : Visit) → found m (in_range axis x.number all) ≡ Some y → is_on axis x y ≡ true → meets axis test y.content ≡ true → has m (reached axis test all n) ≡ true
    reached-has m y i on test_met =
        let part = in_range axis x.number all in
        let ranged = range-apart axis x.number in
        let one : found m (on_axis axis all x) ≡ Some y = found-in (is_on axis x) m part y ranged i on in
        let two = found-in (λ z. meets axis test z.content) m (on_axis axis all x) y (sub-different (map-sub (λ (z : Visit). z.number) (filter-sub (is_on axis x) part)) ranged) one test_met in
        ap (λ o. has m (numbers_of (filter (λ z. meets axis test z.content) (axis_from axis all o)))) e
        ∙ rereversed (is_reverse axis) (on_axis axis all x) m (present m (filter (λ z. meets axis test z.content) (on_axis axis all x)) y two)

-- ---- a forest and its shape

-- not among the texts that the shape replaces
abbrev pub stays : Texts → Visit → Bool
stays texts y = not (is_gone texts y)

abbrev pub first_or : ℕ → List ℕ → ℕ
first_or n [] = n
first_or n (p ∷ ps) = p

-- the number of what stands for a visited node in the shape
abbrev pub stand_in : Texts → Visit → ℕ
stand_in texts x = cond (is_gone texts x) (text_number (first_or x.number x.above)) x.number

pub record IsShaped (texts : Texts) (all shape : List Visit) : Type 0 where
  pub visits : AreVisits all
  pub shape_visits : AreVisits shape
  -- other nodes are the same in both
  pub rest : filter (stays texts) shape ≡ filter (stays texts) all
  -- an element whose texts are replaced has one in the shape
  pub one : (q : ℕ) (z : Visit) → found q all ≡ Some z → is_element z.content ≡ true → is_some (texts q) ≡ true →
      (t : Visit) × (found (text_number q) shape ≡ Some t) × (is_text t.content ≡ true) × (t.above ≡ q ∷ z.above)
  -- nothing but texts and attributes stands in it
  pub only : (k q : ℕ) (y : Visit) → found k all ≡ Some y → is_first q y.above ≡ true → is_some (texts q) ≡ true → (is_text y.content || is_attribute y.content) ≡ true
  -- texts stand in elements
  pub hung : (k : ℕ) (x : Visit) → found k all ≡ Some x → is_text x.content ≡ true → (q : ℕ) × (z : Visit) × (found q all ≡ Some z) × (is_element z.content ≡ true) × (x.above ≡ q ∷ z.above)

text-met : (axis : Axis) (test : Test) (c d : Content) → is_text c ≡ true → is_text d ≡ true → meets axis test c ≡ true → meets axis test d ≡ true
text-met axis (Name name) c d h i m = no (sym (ap not h) ∙ meets-solid axis (Name name) c refl m)
text-met axis (InSpace space) c d h i m = no (sym (ap not h) ∙ meets-solid axis (InSpace space) c refl m)
text-met axis AnyName c d h i m = no (sym (ap not h) ∙ meets-solid axis AnyName c refl m)
text-met axis Text c d h i m = i
text-met axis Node c d h i m = refl
text-met axis Nothing c d h i m = m

no-attribute : (c : Content) → is_text c ≡ true → is_attribute c ≡ false
no-attribute content.Root h = no h
no-attribute (content.Element name) h = no h
no-attribute (content.Attribute name text) h = no h
no-attribute (content.Text text) h = refl

pub has-head : (k : ℕ) (ns : List ℕ) → is_first k ns ≡ true → has k ns ≡ true
has-head k [] h = h
has-head k (m ∷ ms) h = or-left (k == m) (has k ms) h

opened : (m : Option Visit) (ns : List ℕ) → option_map (λ (z : Visit). z.above) m ≡ Some ns → (z : Visit) × (m ≡ Some z) × (z.above ≡ ns)
opened None ns h = none-some h
opened (Some z) ns h = (z, refl, some-same h)

-- what stands above a node is no text
pub above-solid : (all : List Visit) → AreVisits all → (n : ℕ) (x : Visit) → found n all ≡ Some x → (k : ℕ) → has k x.above ≡ true → (z : Visit) × (found k (untexted all) ≡ Some z)
above-solid all v n x e k h = by x.above refl h
  where
    by : (ns : List ℕ) → x.above ≡ ns → has k ns ≡ true → (z : Visit) × (found k (untexted all) ≡ Some z)
    by [] i l = no l
    by (p ∷ ps) i l =
        let z = opened (found p (untexted all)) ps (v.closed n p ps x e i) in
        elim (or-cases (k == p) (has k ps) l) [
          | inl a ↦ (z.0, ap (λ m. found m (untexted all)) (eqb-true k p a) ∙ z.1)
          | inr b ↦ let s = above-stands (itself all v) ps k p z.0 z.1 z.1 z.2 b in (s.visit, s.first)
        ]

module _ {texts : Texts} {all shape : List Visit} (s : IsShaped texts all shape) where
  abbrev pub cov : Visit → ℕ
  cov x = stand_in texts x

  pub stays-found : (n : ℕ) (x : Visit) → found n all ≡ Some x → is_gone texts x ≡ false → found n shape ≡ Some x
  stays-found n x e g =
      (found-out (stays texts) n shape x s.shape_visits.apart (ap (found n) s.rest ∙ found-in (stays texts) n all x s.visits.apart e (ap not g))).0

  pub solid-stays : (x : Visit) → is_text x.content ≡ false → is_gone texts x ≡ false
  solid-stays x h = ap (λ b. b && is_replaced texts x.above) h

  pub cov-solid : (x : Visit) → is_text x.content ≡ false → cov x ≡ x.number
  cov-solid x h = ap (λ b. cond b (text_number (first_or x.number x.above)) x.number) (solid-stays x h)

  pub record Covered (x : Visit) : Type 0 where
    pub visit : Visit
    pub is_in : found (cov x) shape ≡ Some visit
    pub above : visit.above ≡ x.above
    pub text : is_text visit.content ≡ is_text x.content
    pub attribute : is_attribute visit.content ≡ is_attribute x.content
    pub met : (axis : Axis) (test : Test) → meets axis test x.content ≡ true → meets axis test visit.content ≡ true

  pub covered : (n : ℕ) (x : Visit) → found n all ≡ Some x → Covered x
  covered n x e = by (is_gone texts x) refl
    where
      by : (b : Bool) → is_gone texts x ≡ b → Covered x
      by false g = record {
        visit = x;
        is_in = ap (λ b. found (cond b (text_number (first_or x.number x.above)) x.number) shape) g ∙ ap (λ k. found k shape) (found-number n all x e) ∙ stays-found n x e g;
        above = refl;
        text = refl;
        attribute = refl;
        met = λ axis test h. h;
      }
      by true g =
          let both = and-true (is_text x.content) (is_replaced texts x.above) g in
          let p = s.hung n x e both.0 in
          let t = s.one p.0 p.1 p.2 p.3 (ap (is_replaced texts) (sym p.4) ∙ both.1) in
          record {
            visit = t.0;
            is_in = ap (λ b. found (cond b (text_number (first_or x.number x.above)) x.number) shape) g ∙ ap (λ ns. found (text_number (first_or x.number ns)) shape) p.4 ∙ t.1;
            above = t.3 ∙ sym p.4;
            text = t.2 ∙ sym both.0;
            attribute = no-attribute t.0.content t.2 ∙ sym (no-attribute x.content both.0);
            met = λ axis test h. text-met axis test x.content t.0.content both.0 t.2 h;
          }

  -- what stands above another node stands for itself
  pub cov-above : (m : ℕ) (y : Visit) → found m all ≡ Some y → (n : ℕ) (x : Visit) → found n all ≡ Some x → has x.number y.above ≡ true → cov x ≡ x.number
  cov-above m y e n x i h =
      let z = above-solid all s.visits m y e x.number h in
      let out = solid-found all s.visits x.number z.0 z.1 in
      let same : x ≡ z.0 = some-same (sym i ∙ ap (λ k. found k all) (sym (found-number n all x i)) ∙ out.0) in
      cov-solid x (ap (λ (q : Visit). is_text q.content) same ∙ not-of (is_text z.0.content) out.1)
    where
      not-of : (b : Bool) → not b ≡ true → b ≡ false
      not-of true j = sym j
      not-of false j = refl

  -- ---- reading

  -- of a text its element is read, of another node the node
  pub text-reader : (n : ℕ) (x : Visit) → found n all ≡ Some x → is_text x.content ≡ true → (q : ℕ) (qs : List ℕ) → x.above ≡ q ∷ qs → has q (read_for shape (cov x)) ≡ true
  text-reader n x e t q qs i =
      let c = covered n x e in
      ap (λ o. has q (reader_of o)) c.is_in
      ∙ ap (λ b. has q (cond b (unwrap_or (first_of c.visit.above) c.visit.number) c.visit.number ∷ [])) (c.text ∙ t)
      ∙ ap (λ ns. has q (unwrap_or (first_of ns) c.visit.number ∷ [])) (c.above ∙ i)
      ∙ or-left (q == q) false (self-same q)

  pub solid-reader : (n : ℕ) (x : Visit) → found n all ≡ Some x → is_text x.content ≡ false → has n (read_for shape (cov x)) ≡ true
  solid-reader n x e t =
      let c = covered n x e in
      ap (λ o. has n (reader_of o)) c.is_in
      ∙ ap (λ b. has n (cond b (unwrap_or (first_of c.visit.above) c.visit.number) c.visit.number ∷ [])) (c.text ∙ t)
      ∙ ap (λ k. has n (k ∷ [])) (found-number (cov x) shape c.visit c.is_in ∙ cov-solid x t ∙ found-number n all x e)
      ∙ or-left (n == n) false (self-same n)

  pub around-has : (n : ℕ) (x : Visit) → found n all ≡ Some x → (q : ℕ) (qs : List ℕ) → x.above ≡ q ∷ qs → has q (list_around shape (cov x)) ≡ true
  around-has n x e q qs i =
      let c = covered n x e in
      ap (λ o. has q (parent_in o)) c.is_in ∙ of c.visit (c.above ∙ i)
    where
      of : (v : Visit) → v.above ≡ q ∷ qs → has q (parent_in (Some v)) ≡ true
      of v j = at v.above j
        where
          at : (ns : List ℕ) → ns ≡ q ∷ qs → has q (parent_in (Some (record { number = v.number; above = ns; content = v.content }))) ≡ true
          at [] l = cc l
          at (k ∷ ks) l = or-left (q == k) false (let a : k ≡ q = cc l in ap (λ j. q == j) a ∙ self-same q)

  -- ---- steps

  -- a step to siblings begins where the shape has the siblings themselves
  abbrev pub Sided : Axis → Visit → Type 0
  Sided axis x = is_sibling axis ≡ true → is_replaced texts x.above ≡ false

  same-replaced : (xs ys : List ℕ) → same_parent xs ys ≡ true → is_replaced texts xs ≡ is_replaced texts ys
  same-replaced [] ys h = no h
  same-replaced (k ∷ ks) [] h = no h
  same-replaced (k ∷ ks) (l ∷ ls) h = ap (λ j. is_some (texts j)) (eqb-true k l h)

  same-first : (k l : ℕ) (xs ys : List ℕ) → same_parent xs ys ≡ true → first_or l ys ≡ first_or k xs
  same-first k l [] ys h = no h
  same-first k l (a ∷ xs) [] h = no h
  same-first k l (a ∷ xs) (b ∷ ys) h = sym (eqb-true a b h)

  -- in an element whose texts are replaced
  replaced-text : (k : ℕ) (y : Visit) → found k all ≡ Some y → is_replaced texts y.above ≡ true → is_attribute y.content ≡ false → is_text y.content ≡ true
  replaced-text k y e r h = by y.above refl r
    where
      by : (ns : List ℕ) → y.above ≡ ns → is_replaced texts ns ≡ true → is_text y.content ≡ true
      by [] i j = no j
      by (q ∷ qs) i j = elim (or-cases (is_text y.content) (is_attribute y.content) (s.only k q y e (ap (is_first q) i ∙ self-same q) j)) [ inl a ↦ a | inr b ↦ no (sym h ∙ b) ]

  not-replaced : (y : Visit) → is_replaced texts y.above ≡ false → is_gone texts y ≡ false
  not-replaced y h = by (is_text y.content)
    where
      by : (b : Bool) → (b && is_replaced texts y.above) ≡ false
      by true = h
      by false = refl

  module _ (test : Test) (n : ℕ) (x : Visit) (e : found n all ≡ Some x) (m : ℕ) (y : Visit) (i : found m all ≡ Some y) where
    abbrev Stepped : Axis → Type 0
    Stepped axis = has (cov y) (reached axis test shape (cov x)) ≡ true

    cx : Covered x
    cx = covered n x e

    cy : Covered y
    cy = covered m y i

    x-number : cx.visit.number ≡ cov x
    x-number = found-number (cov x) shape cx.visit cx.is_in

    y-number : cy.visit.number ≡ cov y
    y-number = found-number (cov y) shape cy.visit cy.is_in

    first-kept : is_first x.number y.above ≡ true → is_first cx.visit.number cy.visit.above ≡ true
    first-kept h =
        ap (λ k. is_first k cy.visit.above) (x-number ∙ cov-above m y i n x e (has-head x.number y.above h)) ∙ ap (is_first x.number) cy.above ∙ h

    has-kept : has x.number y.above ≡ true → has cx.visit.number cy.visit.above ≡ true
    has-kept h = ap (λ k. has k cy.visit.above) (x-number ∙ cov-above m y i n x e h) ∙ ap (has x.number) cy.above ∙ h

    back-kept : has y.number x.above ≡ true → has cy.visit.number cx.visit.above ≡ true
    back-kept h = ap (λ k. has k cx.visit.above) (y-number ∙ cov-above n x e m y i h) ∙ ap (has y.number) cx.above ∙ h

    itself-kept : (x.number == y.number) ≡ true → (cx.visit.number == cy.visit.number) ≡ true
    itself-kept h =
        let same : x ≡ y = some-same (sym e ∙ ap (λ k. found k all) (sym (found-number n all x e) ∙ eqb-true x.number y.number h ∙ found-number m all y i) ∙ i) in
        ap (λ k. k == cy.visit.number) (x-number ∙ ap cov same ∙ sym y-number) ∙ self-same cy.visit.number

    both-of : (b c : Bool) → b ≡ true → c ≡ true → (b && c) ≡ true
    both-of true c h k = k
    both-of false c h k = h

    below-kept : (has x.number y.above && not (is_attribute y.content)) ≡ true → (has cx.visit.number cy.visit.above && not (is_attribute cy.visit.content)) ≡ true
    below-kept h =
        let p = and-true (has x.number y.above) (not (is_attribute y.content)) h in
        both-of (has cx.visit.number cy.visit.above) (not (is_attribute cy.visit.content)) (has-kept p.0) (ap not cy.attribute ∙ p.1)

    step-by : (axis : Axis) → meets axis test y.content ≡ true → found (cov y) (in_range axis cx.visit.number shape) ≡ Some cy.visit → is_on axis cx.visit cy.visit ≡ true → Stepped axis
    step-by axis met r on = reached-has shape s.shape_visits.apart axis test (cov x) cx.visit cx.is_in (cov y) cy.visit r on (cy.met axis test met)

    -- siblings of which none is replaced stand in the shape in their order
    beside-step : (axis : Axis) (side : ℕ → List Visit → List Visit) → ((ys : List Visit) → in_range axis n ys ≡ side n ys) →
        ((q : Visit → Bool) (ys : List Visit) → found n ys ≡ Some x → q x ≡ true → filter q (side n ys) ≡ side n (filter q ys)) →
        ((ys : List Visit) → Sub (side n ys) ys) →
        is_replaced texts x.above ≡ false → is_replaced texts y.above ≡ false → found m (side n all) ≡ Some y → is_on axis x y ≡ true → meets axis test y.content ≡ true → Stepped axis
    beside-step axis side same through part rx ry j on met =
        let gx = not-replaced x rx in
        let gy = not-replaced y ry in
        let in_shape : found n shape ≡ Some x = stays-found n x e gx in
        let apart_all = sub-different (map-sub (λ (z : Visit). z.number) (part all)) s.visits.apart in
        let apart_shape = sub-different (map-sub (λ (z : Visit). z.number) (part shape)) s.shape_visits.apart in
        let ranged : found m (side n shape) ≡ Some y =
        (found-out (stays texts) m (side n shape) y apart_shape
        (ap (found m) (through (stays texts) shape in_shape (ap not gx) ∙ ap (side n) s.rest ∙ sym (through (stays texts) all e (ap not gx)))
        ∙ found-in (stays texts) m (side n all) y apart_all j (ap not gy))).0 in
        let nx = found-number n all x e in
        let ny = found-number m all y i in
        let at_x : cov x ≡ n = ap (λ b. cond b (text_number (first_or x.number x.above)) x.number) gx ∙ nx in
        let at_y : cov y ≡ m = ap (λ b. cond b (text_number (first_or y.number y.above)) y.number) gy ∙ ny in
        subst (λ k. has (cov y) (reached axis test shape k) ≡ true) (sym at_x)
        (subst (λ k. has k (reached axis test shape n) ≡ true) (sym at_y)
        (reached-has shape s.shape_visits.apart axis test n x in_shape m y
        (ap (λ k. found m (in_range axis k shape)) nx ∙ ap (found m) (same shape) ∙ ranged) on met))

    -- beside a text that the shape replaces: its one text stands for both
    same-text : (axis : Axis) → are_siblings x y ≡ true → meets axis test y.content ≡ true → is_replaced texts x.above ≡ true → (is_kind test ≡ true) × (has (cov y) (if_text (found (cov x) shape)) ≡ true)
    same-text axis on met rx =
        let parts = and-true (same_parent x.above y.above && not (is_attribute x.content)) (not (is_attribute y.content)) on in
        let first = and-true (same_parent x.above y.above) (not (is_attribute x.content)) parts.0 in
        let ry : is_replaced texts y.above ≡ true = sym (same-replaced x.above y.above first.0) ∙ rx in
        let text_x = replaced-text n x e rx (not-of (is_attribute x.content) first.1) in
        let text_y = replaced-text m y i ry (not-of (is_attribute y.content) parts.1) in
        let at_x : cov x ≡ text_number (first_or x.number x.above) = ap (λ b. cond b (text_number (first_or x.number x.above)) x.number) (both-of (is_text x.content) (is_replaced texts x.above) text_x rx) in
        let at_y : cov y ≡ text_number (first_or y.number y.above) = ap (λ b. cond b (text_number (first_or y.number y.above)) y.number) (both-of (is_text y.content) (is_replaced texts y.above) text_y ry) in
        let same : cov y ≡ cov x = at_y ∙ ap text_number (same-first x.number y.number x.above y.above first.0) ∙ sym at_x in (
          kind-of (is_kind test) refl text_y,
          ap (λ o. has (cov y) (if_text o)) cx.is_in
              ∙ ap (λ b. has (cov y) (cond b (cx.visit.number ∷ []) [])) (cx.text ∙ text_x)
              ∙ ap (λ k. has (cov y) (k ∷ [])) x-number
              ∙ ap (λ k. has k (cov x ∷ [])) same
              ∙ or-left (cov x == cov x) false (self-same (cov x)),
        )
      where
        not-of : (b : Bool) → not b ≡ true → b ≡ false
        not-of true j = sym j
        not-of false j = refl

        kind-of : (b : Bool) → is_kind test ≡ b → is_text y.content ≡ true → b ≡ true
        kind-of true h t = refl
        kind-of false h t = no (sym (ap not t) ∙ meets-solid axis test y.content h met)

    -- where a step to siblings begins at a text that the shape replaces, that text of the shape stands for what the step reaches
    pub cover-beside : (axis : Axis) → is_sibling axis ≡ true → meets axis test y.content ≡ true → is_on axis x y ≡ true → is_replaced texts x.above ≡ true →
        ((is_kind test && meets_texts axis) ≡ true) × (has (cov y) (text_beside axis shape (cov x)) ≡ true)
    cover-beside Child sibling met on rx = no sibling
    cover-beside Attribute sibling met on rx = no sibling
    cover-beside Self_ sibling met on rx = no sibling
    cover-beside Parent sibling met on rx = no sibling
    cover-beside Ancestor sibling met on rx = no sibling
    cover-beside AncestorOrSelf sibling met on rx = no sibling
    cover-beside Descendant sibling met on rx = no sibling
    cover-beside DescendantOrSelf sibling met on rx = no sibling
    cover-beside FollowingSibling sibling met on rx = let p = same-text FollowingSibling on met rx in (both-of (is_kind test) true p.0 refl, p.1)
    cover-beside PrecedingSibling sibling met on rx = let p = same-text PrecedingSibling on met rx in (both-of (is_kind test) true p.0 refl, p.1)

    -- what a step reaches it reaches in the shape, from what stands for the one node what stands for the other
    pub cover-step : (axis : Axis) → meets axis test y.content ≡ true → found m (in_range axis x.number all) ≡ Some y → is_on axis x y ≡ true → Sided axis x → Stepped axis
    cover-step Child passed j on side = step-by Child passed cy.is_in
        (let p = and-true (is_first x.number y.above) (not (is_attribute y.content)) on in both-of (is_first cx.visit.number cy.visit.above) (not (is_attribute cy.visit.content)) (first-kept p.0) (ap not cy.attribute ∙ p.1))
    cover-step Attribute passed j on side = step-by Attribute passed cy.is_in
        (let p = and-true (is_first x.number y.above) (is_attribute y.content) on in both-of (is_first cx.visit.number cy.visit.above) (is_attribute cy.visit.content) (first-kept p.0) (cy.attribute ∙ p.1))
    cover-step Self_ passed j on side = step-by Self_ passed cy.is_in (itself-kept on)
    cover-step Parent passed j on side = step-by Parent passed cy.is_in
        (ap (λ k. is_first k cx.visit.above) (y-number ∙ cov-above n x e m y i (has-head y.number x.above on)) ∙ ap (is_first y.number) cx.above ∙ on)
    cover-step Ancestor passed j on side = step-by Ancestor passed cy.is_in (back-kept on)
    cover-step AncestorOrSelf passed j on side = step-by AncestorOrSelf passed cy.is_in
        (elim (or-cases (has y.number x.above) (x.number == y.number) on) [
          | inl a ↦ or-left (has cy.visit.number cx.visit.above) (cx.visit.number == cy.visit.number) (back-kept a)
          | inr b ↦ or-right (has cy.visit.number cx.visit.above) (cx.visit.number == cy.visit.number) (itself-kept b)
        ])
    cover-step Descendant passed j on side = step-by Descendant passed cy.is_in (below-kept on)
    cover-step DescendantOrSelf passed j on side = step-by DescendantOrSelf passed cy.is_in
        (elim (or-cases (has x.number y.above && not (is_attribute y.content)) (x.number == y.number) on) [
          | inl a ↦ or-left (has cx.visit.number cy.visit.above && not (is_attribute cy.visit.content)) (cx.visit.number == cy.visit.number) (below-kept a)
          | inr b ↦ or-right (has cx.visit.number cy.visit.above && not (is_attribute cy.visit.content)) (cx.visit.number == cy.visit.number) (itself-kept b)
        ])
    cover-step FollowingSibling passed j on side =
        beside-step FollowingSibling after (λ ys. refl) (λ q ys. filter-after q n x ys) (after-sub n) (side refl)
        (sym (same-replaced x.above y.above (and-true _ _ (and-true _ _ on).0).0) ∙ side refl) (ap (λ k. found m (after k all)) (sym (found-number n all x e)) ∙ j) on passed
    cover-step PrecedingSibling passed j on side =
        beside-step PrecedingSibling before (λ ys. refl) (λ q ys. filter-before q n x ys) (before-sub n) (side refl)
        (sym (same-replaced x.above y.above (and-true _ _ (and-true _ _ on).0).0) ∙ side refl) (ap (λ k. found m (before k all)) (sym (found-number n all x e)) ∙ j) on passed

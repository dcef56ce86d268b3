-- From a node of the shape a step reaches texts that stand in place of others: of each node of the forest on the axis a piece.
use Rattle.std.proofs.Common.{◌≡◌, ℕ, ◌==◌, ◌^◌, Bool, true, false, not, cond, ◌&&◌, ◌||◌, List, [], ◌∷◌, ◌++◌, map, length, nat_lt, Some, refl, sym, ap, ◌∙◌, arith, inl, inr}
use Rattle.std.specs.Prelude.{filter, ◌<◌}
use Rattle.std.specs.List.{flat_map}
use Rattle.std.proofs.lemmas.Bool.{eqb-true}
use Rattle.xf_name.specs.declared.axis.Axis.{Axis}
use Rattle.xf_name.specs.declared.axis.Axis.TheVariants.{Descendant, DescendantOrSelf}
use Rattle.xf_def_syntax.specs.declared.expr.Test.{Test}
use Rattle.xf_def_syntax.specs.declared.expr.Test.TheVariants as test
use Rattle.xf_def_forest.specs.declared.content.Content.{Content}
use Rattle.xf_def_forest.specs.declared.content.Content.TheVariants as content
use Rattle.xf_def_forest.specs.Forest.{Forest, is_text, is_element, is_attribute, content_at}
use Rattle.xf_def_forest.specs.Visit.{Visit, visits, has}
use Rattle.xf_def_forest.specs.Axis.{is_on, axis_from, axis_of}
use Rattle.xf_def_forest.specs.Shape.{is_borne, is_replaced, has_elements, without_text, text_number}
use Rattle.xf_def_forest.proofs.BackLaws.{and-true}
use Rattle.xf_def_xpath.specs.Asked.{has_list, found}
use Rattle.xf_def_xpath.specs.AskedSteps.{is_kind}
use Rattle.xf_def_xpath.specs.Agree.{untexted, AreVisits}
use Rattle.xf_def_xpath.specs.Steps.{reached}
use Rattle.xf_def_xpath.specs.Tests.{meets}
use Rattle.xf_def_xpath.proofs.VisitFacts.{no, some-same, turned, or-cases, filter-and, found-number}
use Rattle.xf_def_xpath.proofs.ForestVisits.{Each, each-map, self-found}
use Rattle.xf_def_xpath.proofs.UntextedLaws.{solid-found}
use Rattle.xf_def_forest.proofs.RenumberLaws.{flat-through, filter-through}
use Rattle.xf_eval.proofs.Erased.{reached-erased}
use Rattle.xf_eval_shape.specs.Spots.{stands, is_leaf, is_element_in}
use Rattle.xf_eval_shape.specs.Steps.{meets_in, if_so, piece}
use Rattle.xf_eval_shape.proofs.Filled.{filtered-filled, pieces}
use Rattle.xf_eval_shape.proofs.Lists.{flat-each, filter-flat, map-flat, flat-filter}
use Rattle.xf_eval_shape.proofs.Shapes.{Sound, given, given-is, given-none, is_kept, kept, texts_of, is_leaf_visit, text_in, real, whole, real-visits, whole-visits, shaped-is, live-below, found-live, stands-is, stands-found, text-apart}
use Rattle.xf_eval_shape.proofs.Frames.{each-same, opened}
use Rattle.xf_eval_shape.proofs.Plain.{content-of, element-erased}

-- ---- no node stands above itself

module _ (all : List Visit) (v : AreVisits all) where
  nearer : (n : ℕ) (ns : List ℕ) (k : ℕ) (y : Visit) → found k all ≡ Some y → y.above ≡ ns → has n ns ≡ true → (z : Visit) × (found n all ≡ Some z) × (length z.above < length ns)
  nearer n [] k y i h l = no l
  nearer n (m ∷ ms) k y i h l =
      let z = opened (found m (untexted all)) ms (v.closed k m ms y i h) in
      let there : found m all ≡ Some z.0 = (solid-found all v m z.0 z.1).0 in
      elim (or-cases (n == m) (has n ms) l) [
        | inl a ↦ (z.0, ap (λ j. found j all) (eqb-true n m a) ∙ there, let s : length z.0.above ≡ length ms = ap length z.2 in omega (arith, s))
        | inr b ↦ let w = nearer n ms m z.0 there z.2 b in let s : length w.0.above < length ms = w.2 in (w.0, w.1, omega (arith, s))
      ]

  pub not-above : (n : ℕ) (x : Visit) → found n all ≡ Some x → has n x.above ≡ false
  not-above n x e = by (has n x.above) refl
    where
      by : (b : Bool) → has n x.above ≡ b → b ≡ false
      by true h =
          let z = nearer n x.above n x e refl h in
          let s : length z.0.above ≡ length x.above = ap (λ (q : Visit). length q.above) (some-same (sym z.1 ∙ e)) in
          let l : length z.0.above < length x.above = z.2 in
          absurd (omega (arith, s, l))
      by false h = refl

-- ---- tests that tell kinds

meets-erased : (axis : Axis) (t : Test) (c : Content) → is_kind t ≡ true → meets axis t (without_text c) ≡ meets axis t c
meets-erased axis test.Text content.Root k = refl
meets-erased axis test.Text (content.Element name) k = refl
meets-erased axis test.Text (content.Attribute name text) k = refl
meets-erased axis test.Text (content.Text text) k = refl
meets-erased axis test.Node c k = refl
meets-erased axis (test.Name name) c k = no k
meets-erased axis (test.InSpace space) c k = no k
meets-erased axis test.AnyName c k = no k
meets-erased axis test.Nothing c k = no k

pub meets-text : (axis : Axis) (t : Test) → is_kind t ≡ true → meets axis t (content.Text []) ≡ true
meets-text axis test.Text k = refl
meets-text axis test.Node k = refl
meets-text axis (test.Name name) k = no k
meets-text axis (test.InSpace space) k = no k
meets-text axis test.AnyName k = no k
meets-text axis test.Nothing k = no k

not-attribute : (c : Content) → has_list c ≡ true → is_attribute c ≡ false
not-attribute content.Root h = refl
not-attribute (content.Element name) h = refl
not-attribute (content.Attribute name text) h = no h
not-attribute (content.Text text) h = no h

element-is : (c : Content) → is_element c ≡ true → is_attribute c ≡ false
element-is content.Root h = refl
element-is (content.Element name) h = refl
element-is (content.Attribute name text) h = no h
element-is (content.Text text) h = no h

pub text-element : (c : Content) → is_text c ≡ true → is_element c ≡ false
text-element content.Root h = no h
text-element (content.Element name) h = no h
text-element (content.Attribute name text) h = no h
text-element (content.Text text) h = refl

module _ (forest : Forest) (sound : Sound forest) (n : ℕ) (x : Visit) (e : found n (real forest sound) ≡ Some x) (s : stands forest.nodes n ≡ true)
    (listed : has_list x.content ≡ true) (t : Test) (kind : is_kind t ≡ true) where
  pub here : found n (whole forest sound) ≡ Some x
  here = stands-found forest sound n x e s

  pub named : x.number ≡ n
  named = found-number n (real forest sound) x e

  -- ---- a piece of the shape

  abbrev pub Met : Axis → Visit → Bool
  Met axis y = meets axis t y.content

  made : (axis : Axis) (y : Visit) → map (λ (z : Visit). z.number) (filter (Met axis) (y ∷ given forest.nodes y)) ≡ if_so (Met axis y) y.number ++ if_so (is_leaf_visit forest.nodes y) (text_number y.number)
  made axis y = ap (λ l. map (λ (z : Visit). z.number) (filter (Met axis) (y ∷ l))) (given-is forest.nodes y) ∙ by (Met axis y) (is_leaf_visit forest.nodes y)
    where
      one : map (λ (z : Visit). z.number) (filter (Met axis) (text_in y ∷ [])) ≡ text_number y.number ∷ []
      one = ap (λ b. map (λ (z : Visit). z.number) (cond b (text_in y ∷ []) [])) (meets-text axis t kind)

      by : (a b : Bool) → map (λ (z : Visit). z.number) (cond a (y ∷ filter (Met axis) (cond b (text_in y ∷ []) [])) (filter (Met axis) (cond b (text_in y ∷ []) []))) ≡ if_so a y.number ++ if_so b (text_number y.number)
      by true true = ap (λ l. y.number ∷ l) one
      by true false = refl
      by false true = one
      by false false = refl

  pub leaf-is : (y : Visit) → found y.number (real forest sound) ≡ Some y → is_leaf forest.nodes y.number ≡ is_leaf_visit forest.nodes y
  leaf-is y i =
      let c = content-of forest.nodes y.number y i in
      ap (λ b. b && not (has_elements (visits forest.nodes) y.number)) (ap is_element_in c.1 ∙ sym (element-erased c.0) ∙ ap is_element (sym c.2))

  piece-is : (axis : Axis) (y : Visit) → found y.number (real forest sound) ≡ Some y →
      cond (is_kept forest.nodes y) (map (λ (z : Visit). z.number) (filter (Met axis) (y ∷ given forest.nodes y))) [] ≡ piece forest.nodes axis t y.number
  piece-is axis y i =
      let c = content-of forest.nodes y.number y i in
      let met : Met axis y ≡ meets_in axis t (content_at y.number forest.nodes) = ap (meets axis t) c.2 ∙ meets-erased axis t c.0 kind ∙ sym (ap (meets_in axis t) c.1) in
      ap (λ l. cond (is_kept forest.nodes y) l []) (made axis y)
      ∙ by (is_kept forest.nodes y) refl
      ∙ ap (λ b. if_so (b && Met axis y) y.number ++ if_so (is_leaf_visit forest.nodes y && is_kind t) (text_number y.number)) (sym (stands-is forest sound y.number y i))
      ∙ ap (λ b. if_so (stands forest.nodes y.number && b) y.number ++ if_so (is_leaf_visit forest.nodes y && is_kind t) (text_number y.number)) met
      ∙ ap (λ b. if_so (stands forest.nodes y.number && meets_in axis t (content_at y.number forest.nodes)) y.number ++ if_so (b && is_kind t) (text_number y.number)) (sym (leaf-is y i))
    where
      and-kind : (b : Bool) → b ≡ (b && is_kind t)
      and-kind true = sym kind
      and-kind false = refl

      gone : is_kept forest.nodes y ≡ false → is_leaf_visit forest.nodes y ≡ false
      gone h = ap (λ b. b && not (has_elements (visits forest.nodes) y.number)) (of (is_text y.content) h (text-element y.content))
        where
          of : (b : Bool) → not (b && is_replaced (texts_of forest.nodes) y.above) ≡ false → (b ≡ true → is_element y.content ≡ false) → is_element y.content ≡ false
          of true j k = k refl
          of false j k = no (sym j)

      by : (b : Bool) → is_kept forest.nodes y ≡ b → cond b (if_so (Met axis y) y.number ++ if_so (is_leaf_visit forest.nodes y) (text_number y.number)) [] ≡ if_so (b && Met axis y) y.number ++ if_so (is_leaf_visit forest.nodes y && is_kind t) (text_number y.number)
      by true h = ap (λ b. if_so (Met axis y) y.number ++ if_so b (text_number y.number)) (and-kind (is_leaf_visit forest.nodes y))
      by false h = sym (ap (λ b. if_so (b && is_kind t) (text_number y.number)) (gone h))

  -- ---- all from the node down

  abbrev Down : Visit → Bool
  Down y = (has x.number y.above || (x.number == y.number)) && not (is_attribute y.content)

  no-attribute : (b : Bool) → (b && not true) ≡ false
  no-attribute true = refl
  no-attribute false = refl

  down-borne : (y : Visit) → is_borne y ≡ true → (Down y ≡ false) × (given forest.nodes y ≡ [])
  down-borne y h = (ap (λ b. (has x.number y.above || (x.number == y.number)) && not b) (and-true _ _ h).0 ∙ no-attribute (has x.number y.above || (x.number == y.number)), given-none forest.nodes y h)

  -- in a list in which the node is found it is the same as on the axis
  down-is : (all : List Visit) → AreVisits all → found n all ≡ Some x → filter (is_on DescendantOrSelf x) all ≡ filter Down all
  down-is all v i = each-same (is_on DescendantOrSelf x) Down all (each-map (λ y. found y.number all ≡ Some y) (λ y. is_on DescendantOrSelf x y ≡ Down y) all (λ y j. by y j (is_attribute y.content) refl (x.number == y.number) refl) (self-found all v.apart))
    where
      or-false : (a : Bool) → ((a && true) || false) ≡ ((a || false) && true)
      or-false true = refl
      or-false false = refl

      or-true : (a : Bool) → ((a && true) || true) ≡ ((a || true) && true)
      or-true true = refl
      or-true false = refl

      and-one : (a : Bool) → ((a && false) || false) ≡ ((a || false) && false)
      and-one true = refl
      and-one false = refl

      by : (y : Visit) → found y.number all ≡ Some y → (b : Bool) → is_attribute y.content ≡ b → (c : Bool) → (x.number == y.number) ≡ c → ((has x.number y.above && not b) || c) ≡ ((has x.number y.above || c) && not b)
      by y j true h true k =
          let same : y ≡ x = some-same (sym j ∙ ap (λ m. found m all) (sym (eqb-true x.number y.number k) ∙ named) ∙ i) in
          no (sym (not-attribute x.content listed) ∙ ap (λ (z : Visit). is_attribute z.content) (sym same) ∙ h)
      by y j true h false k = and-one (has x.number y.above)
      by y j false h true k = or-true (has x.number y.above)
      by y j false h false k = or-false (has x.number y.above)

  text-down : (y : Visit) → is_leaf_visit forest.nodes y ≡ true → Down (text_in y) ≡ Down y
  text-down y h =
      ap (λ b. (((x.number == y.number) || has x.number y.above) || b) && true) (turned x.number (text_number y.number) ∙ text-apart x.number y.number (ap (λ k. nat_lt k (2 ^ 128)) named ∙ live-below forest sound n (found-live forest sound n x e)))
      ∙ by (x.number == y.number) (has x.number y.above)
      ∙ sym (ap (λ b. (has x.number y.above || (x.number == y.number)) && not b) (element-is y.content (and-true _ _ h).0))
    where
      by : (a b : Bool) → (((a || b) || false) && true) ≡ ((b || a) && true)
      by true true = refl
      by true false = refl
      by false true = refl
      by false false = refl

  -- a piece is kept as its node is
  whole-piece : (y : Visit) → pieces Down (given forest.nodes) down-borne y ≡ cond (Down y) (y ∷ given forest.nodes y) []
  whole-piece y = ap (λ l. filter Down (y ∷ l)) (given-is forest.nodes y) ∙ of (is_leaf_visit forest.nodes y) refl ∙ ap (λ l. cond (Down y) (y ∷ l) []) (sym (given-is forest.nodes y))
    where
      two : (a b : Bool) → a ≡ b → cond b (y ∷ cond a (text_in y ∷ []) []) (cond a (text_in y ∷ []) []) ≡ cond b (y ∷ text_in y ∷ []) []
      two true true i = refl
      two true false i = no (sym i)
      two false true i = no i
      two false false i = refl

      of : (b : Bool) → is_leaf_visit forest.nodes y ≡ b → filter Down (y ∷ cond b (text_in y ∷ []) []) ≡ cond (Down y) (y ∷ cond b (text_in y ∷ []) []) []
      of true h = two (Down (text_in y)) (Down y) (text-down y h)
      of false h = refl

  met-cond : (axis : Axis) (b : Bool) (l : List Visit) → map (λ (z : Visit). z.number) (filter (Met axis) (cond b l [])) ≡ cond b (map (λ (z : Visit). z.number) (filter (Met axis) l)) []
  met-cond axis true l = refl
  met-cond axis false l = refl

  swapped : {X : Type 0} (a b : Bool) (l : List X) → cond a (cond b l []) [] ≡ cond b (cond a l []) []
  swapped true true l = refl
  swapped true false l = refl
  swapped false true l = refl
  swapped false false l = refl

  pub below-pieces : reached DescendantOrSelf t (whole forest sound) n ≡ flat_map (piece forest.nodes DescendantOrSelf t) (axis_of DescendantOrSelf n (visits forest.nodes))
  below-pieces =
      let axis : Axis = DescendantOrSelf in
      let number : List Visit → List ℕ = map (λ (z : Visit). z.number) in
      let W = whole forest sound in
      let R = real forest sound in
      ap (λ m. number (filter (Met axis) (axis_from axis W m))) here
      ∙ ap (λ l. number (filter (Met axis) l)) (down-is W (whole-visits forest sound) here ∙ ap (filter Down) (shaped-is forest.nodes) ∙ filtered-filled Down (given forest.nodes) down-borne [] (kept forest.nodes))
      ∙ ap number (filter-flat (Met axis) (pieces Down (given forest.nodes) down-borne) (kept forest.nodes))
      ∙ map-flat (λ (z : Visit). z.number) (λ y. filter (Met axis) (pieces Down (given forest.nodes) down-borne y)) (kept forest.nodes)
      ∙ flat-filter (is_kept forest.nodes) (λ y. number (filter (Met axis) (pieces Down (given forest.nodes) down-borne y))) R
      ∙ flat-each _ (λ y. cond (Down y) (piece forest.nodes axis t y.number) []) R
      (each-map (λ y. found y.number R ≡ Some y) _ R
      (λ y i.
      ap (λ l. cond (is_kept forest.nodes y) (number (filter (Met axis) l)) []) (whole-piece y)
      ∙ ap (λ l. cond (is_kept forest.nodes y) l []) (met-cond axis (Down y) (y ∷ given forest.nodes y))
      ∙ swapped (is_kept forest.nodes y) (Down y) (number (filter (Met axis) (y ∷ given forest.nodes y)))
      ∙ ap (λ l. cond (Down y) l []) (piece-is axis y i))
      (self-found R (real-visits forest sound).apart))
      ∙ sym (flat-filter Down (λ y. piece forest.nodes axis t y.number) R)
      ∙ sym (flat-through (λ (z : Visit). z.number) (piece forest.nodes axis t) (λ y. piece forest.nodes axis t y.number) (λ y. refl) (filter Down R))
      ∙ ap (λ l. flat_map (piece forest.nodes axis t) (number l)) (sym (down-is R (real-visits forest sound) e))
      ∙ sym (ap (λ m. flat_map (piece forest.nodes axis t) (number (axis_from axis R m))) e)
      ∙ ap (flat_map (piece forest.nodes axis t)) axis-real
    where
      all-met : (l : List Visit) → filter (λ (y : Visit). true) l ≡ l
      all-met [] = refl
      all-met (y ∷ ys) = ap (λ r. y ∷ r) (all-met ys)

      axis-real : map (λ (z : Visit). z.number) (axis_from DescendantOrSelf (real forest sound) (found n (real forest sound))) ≡ axis_of DescendantOrSelf n (visits forest.nodes)
      axis-real =
          ap (map (λ (z : Visit). z.number)) (sym (all-met (axis_from DescendantOrSelf (real forest sound) (found n (real forest sound)))))
          ∙ reached-erased DescendantOrSelf test.Node (visits forest.nodes) n
          ∙ ap (map (λ (z : Visit). z.number)) (all-met (axis_from DescendantOrSelf (visits forest.nodes) (found n (visits forest.nodes))))

  -- ---- all below the node

  pub strictly-below : reached Descendant t (whole forest sound) n ≡ filter (λ k. not (n == k)) (reached DescendantOrSelf t (whole forest sound) n)
  strictly-below =
      let W = whole forest sound in
      let number : List Visit → List ℕ = map (λ (z : Visit). z.number) in
      ap (λ m. number (filter (Met Descendant) (axis_from Descendant W m))) here
      ∙ ap (λ l. number (filter (Met Descendant) l)) (below-is ∙ filter-and (λ y. not (n == y.number)) (is_on DescendantOrSelf x) W)
      ∙ ap number (sym (filter-and (Met Descendant) (λ y. not (n == y.number)) (filter (is_on DescendantOrSelf x) W)) ∙ each-same _ _ (filter (is_on DescendantOrSelf x) W) (all-commute (filter (is_on DescendantOrSelf x) W)) ∙ filter-and (λ y. not (n == y.number)) (Met DescendantOrSelf) (filter (is_on DescendantOrSelf x) W))
      ∙ sym (filter-through (λ (y : Visit). y.number) (λ k. not (n == k)) (λ y. not (n == y.number)) (λ y. refl) (filter (Met DescendantOrSelf) (filter (is_on DescendantOrSelf x) W)))
      ∙ sym (ap (λ m. filter (λ k. not (n == k)) (number (filter (Met DescendantOrSelf) (axis_from DescendantOrSelf W m)))) here)
    where
      same-met : (c : Content) → meets Descendant t c ≡ meets DescendantOrSelf t c
      same-met c = by t
        where
          by : (u : Test) → meets Descendant u c ≡ meets DescendantOrSelf u c
          by test.Text = refl
          by test.Node = refl
          by (test.Name name) = refl
          by (test.InSpace space) = refl
          by test.AnyName = refl
          by test.Nothing = refl

      commute : (a b : Bool) → (a && b) ≡ (b && a)
      commute true true = refl
      commute true false = refl
      commute false true = refl
      commute false false = refl

      all-commute : (ys : List Visit) → Each (λ y. (not (n == y.number) && Met Descendant y) ≡ (Met DescendantOrSelf y && not (n == y.number))) ys
      all-commute [] = tt
      all-commute (y ∷ ys) = (ap (λ b. not (n == y.number) && b) (same-met y.content) ∙ commute (not (n == y.number)) (Met DescendantOrSelf y), all-commute ys)

      below-is : filter (is_on Descendant x) (whole forest sound) ≡ filter (λ y. is_on DescendantOrSelf x y && not (n == y.number)) (whole forest sound)
      below-is = each-same (is_on Descendant x) (λ y. is_on DescendantOrSelf x y && not (n == y.number)) (whole forest sound)
          (each-map (λ y. found y.number (whole forest sound) ≡ Some y) (λ y. is_on Descendant x y ≡ (is_on DescendantOrSelf x y && not (n == y.number))) (whole forest sound)
          (λ y i. by y i (n == y.number) refl ∙ ap (λ k. ((has x.number y.above && not (is_attribute y.content)) || (k == y.number)) && not (n == y.number)) (sym named))
          (self-found (whole forest sound) (whole-visits forest sound).apart))
        where
          by : (y : Visit) → found y.number (whole forest sound) ≡ Some y → (b : Bool) → (n == y.number) ≡ b → (has x.number y.above && not (is_attribute y.content)) ≡ (((has x.number y.above && not (is_attribute y.content)) || b) && not b)
          by y i true h =
              let same : y ≡ x = some-same (sym i ∙ ap (λ m. found m (whole forest sound)) (sym (eqb-true n y.number h)) ∙ here) in
              ap (λ b. b && not (is_attribute y.content)) (ap (λ (z : Visit). has x.number z.above) same ∙ ap (λ k. has k x.above) named ∙ not-above (whole forest sound) (whole-visits forest sound) n x here)
              ∙ sym (and-none ((has x.number y.above && not (is_attribute y.content)) || true))
            where
              and-none : (b : Bool) → (b && false) ≡ false
              and-none true = refl
              and-none false = refl
          by y i false h = or-none (has x.number y.above && not (is_attribute y.content))
            where
              or-none : (b : Bool) → b ≡ ((b || false) && true)
              or-none true = refl
              or-none false = refl

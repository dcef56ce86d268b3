-- What a calculate reads has one string value in data that hold the same contents at the nodes that it reads and below them: so it gives one
-- text, and where no cycle stands the settled contents are the only ones that stand.
use Rattle.std.proofs.Common.{◌≡◌, ℕ, ◌==◌, ◌^◌, Bool, true, false, not, List, [], ◌∷◌, map, is_some, Option, Some, None, option_map, refl, sym, ap, ◌∙◌, subst, inl, inr, arith}
use Rattle.std.specs.List.{list_any}
use Rattle.std.proofs.lemmas.Bool.{cases_Bool, eqb-true, or_cases, or_left, or_right, false≢true, ltb-true}
use Rattle.xf_def_forest.specs.Forest.{Forest, is_text}
use Rattle.xf_def_forest.specs.Visit.{Visit, visits, has, ancestors_of, above_in}
use Rattle.xf_def_forest.specs.StringValue.{string_value}
use Rattle.xf_def_forest.specs.Shape.{text_number, is_replaced, erased, without_text, shape, texts_given}
use Rattle.xf_def_forest.specs.declared.content.Content.{Content}
use Rattle.xf_def_forest.specs.declared.content.Content.TheVariants.{Root, Element, Attribute, Text}
use Rattle.xf_def_xpath.specs.Asked.{found}
use Rattle.xf_def_xpath.specs.Agree.{numbers_of, untexted, AreVisits}
use Rattle.xf_def_xpath.specs.Reads.{trace}
use Rattle.xf_def_xpath.proofs.VisitFacts.{some-same, none-some, found-in, present}
use Rattle.xf_def_xpath.proofs.UntextedLaws.{solid-found}
use Rattle.xf_def_xpath.proofs.Comparison.{over_shape}
use Rattle.xf_def_xpath.proofs.ReadsAgree.{in-order_has}
use Rattle.xf_def_xpath.proofs.ForestVisits.{Each, self-found, found-erased}
use Rattle.xf_def_xpath.proofs.ShapeVisits.{shape-visits}
use Rattle.xf_def_model.specs.Rules.{Scope}
use Rattle.xf_def_model.specs.Applied.{Entry}
use Rattle.xf_def_model.specs.Entries.{focus_of, reads_by, reads_of}
use Rattle.xf_def_model.specs.Settled.{Bounds, Contents, content_of, holding, calculates, fitting, settled_contents}
use Rattle.xf_def_model.specs.Pertinent.{AllOf}
use Rattle.xf_def_model.specs.Stands.{IsSettled, AreCalculated, AgreeFor, Agrees, AreStanding, AreAcyclic}
use Rattle.xf_def_model.proofs.EachLemmas.{each_then, each_one}
use Rattle.xf_def_model.proofs.HoldingLaws.{SameAt}
use Rattle.xf_def_model.proofs.HoldingStrings.{string_value-kept}
use Rattle.xf_def_model.proofs.ReadSolid.{IsSolid, converted-solid, trace-solid}
use Rattle.xf_def_model.proofs.SettledLaws.{settled-unique, settled-stands}
use Rattle.xf_def_model.proofs.AgreeLaws.{AreData, IsCovered, comparison, whole, text-same, shape_same, bare_visits, bare_below}

-- ---- lists

any-of : (n : ℕ) (ns reads : List ℕ) → has n ns ≡ true → has n reads ≡ true → list_any (λ m. has m reads) ns ≡ true
any-of n [] reads h k = absurd (false≢true h)
any-of n (m ∷ ms) reads h k = elim (or_cases (n == m) (has n ms) h) [
  | inl e ↦ or_left (has m reads) (list_any (λ j. has j reads) ms) (subst (λ j. has j reads ≡ true) (eqb-true n m e) k)
  | inr later ↦ or_right (has m reads) (list_any (λ j. has j reads) ms) (any-of n ms reads later k)
]

each-erased : (P : Visit → Type 0) (xs : List Visit) → Each P (map erased xs) → AllOf (λ x. P (erased x)) xs
each-erased P [] h = tt
each-erased P (x ∷ xs) h = (h.0, each-erased P xs h.1)

above-of : (m : Option Visit) (x : Visit) → option_map erased m ≡ Some x → above_in m ≡ x.above
above-of None x e = none-some e
above-of (Some y) x e = ap (λ (z : Visit). z.above) (some-same e)

opened : (m : Option Visit) (ns : List ℕ) → option_map (λ (z : Visit). z.above) m ≡ Some ns → (z : Visit) × (m ≡ Some z) × (z.above ≡ ns)
opened None ns h = none-some h
opened (Some z) ns h = (z, refl, some-same h)

text-kept : (c : Content) → is_text (without_text c) ≡ is_text c
text-kept Root = refl
text-kept (Element name) = refl
text-kept (Attribute name text) = refl
text-kept (Text text) = refl

module _ (scope : Scope) (b : Bounds) (forest : Forest) (entries : List Entry) (data_are : AreData scope b.string forest) where
  abbrev all : List Visit
  all = visits forest.nodes

  abbrev bare : List Visit
  bare = map erased all

  abbrev shaped : List Visit
  shaped = map erased (shape all)

  v : AreVisits bare
  v = bare_visits scope b forest entries data_are

  w : AreVisits shaped
  w = shape-visits forest data_are.forest_is data_are.below

  -- a node that is no text stands in the shape with the same nodes above it
  above-in_shape : (p : ℕ) (z : Visit) → found p (untexted bare) ≡ Some z → ancestors_of p (shape all) ≡ z.above
  above-in_shape p z h =
      above-of (found p (shape all)) z (sym (found-erased p (shape all)) ∙ (solid-found shaped w p z (ap (found p) (shape_same scope b forest entries data_are) ∙ h)).0)

  module _ (e : Entry) (covered : IsCovered scope forest e) (one other : Contents) (agree : AgreeFor scope all e one other) (n : ℕ)
      (in_shape : has n (numbers_of shaped) ≡ true) (is_read : has n (whole scope b forest entries data_are e covered one other).reads ≡ true) where
    -- the node is among those that are read
    told : has n (reads_of scope (shape all) e) ≡ true
    told =
        ap (λ x. has n (reads_by scope (shape all) e x)) covered.expression
        ∙ in-order_has shaped w.apart (whole scope b forest entries data_are e covered one other).reads n in_shape is_read

    content-at : (p : ℕ) (z : Visit) → found p (untexted bare) ≡ Some z → has n (p ∷ z.above) ≡ true → content_of one p ≡ content_of other p
    content-at p z h i =
        agree p (ap (λ above. list_any (λ m. has m (reads_of scope (shape all) e)) (p ∷ above)) (above-in_shape p z h)
        ∙ any-of n (p ∷ z.above) (reads_of scope (shape all) e) i told)

    -- it is no text
    solid : IsSolid bare n
    solid =
        let s = over_shape (comparison scope b forest entries data_are e covered one other) in
        let asked = (trace covered.expr).asked s (focus_of e) in
        let x = converted-solid s data_are.hung asked (trace-solid covered.expr s data_are.hung (focus_of e)) n is_read in
        (x.0, ap (found n) (sym (shape_same scope b forest entries data_are)) ∙ x.1)

    module _ (calculated : AllOf (IsCovered scope forest) (calculates entries)) (of_one : AreCalculated entries one) (of_other : AreCalculated entries other) where
      text-no_solid : (k : ℕ) (x : Visit) → found k bare ≡ Some (erased x) → is_text x.content ≡ true → IsSolid bare k → ⊥
      text-no_solid k x h t y =
          let s = solid-found bare v k y.0 y.1 in
          let same : erased x ≡ y.0 = some-same (sym h ∙ s.0) in
          false≢true (sym (ap not (text-kept x.content ∙ t)) ∙ ap (λ (z : Visit). not (is_text z.content)) same ∙ s.1)

      -- a text has no calculate
      none-calculated : (x : Visit) → found x.number bare ≡ Some (erased x) → is_text x.content ≡ true → list_any (λ f. f.node == x.number) (calculates entries) ≡ false
      none-calculated x h t = elim (cases_Bool (list_any (λ f. f.node == x.number) (calculates entries))) [
        | inl some ↦
            let f = each_one (IsCovered scope forest) (λ (f : Entry). f.node == x.number) (calculates entries) calculated some in
            absurd (text-no_solid x.number x h t (subst (IsSolid bare) (eqb-true f.0.node x.number f.1) f.2.node))
        | inr none ↦ none
      ]

      content-of : (x : Visit) (c : Bool) → is_text x.content ≡ c → found x.number bare ≡ Some (erased x) → has n (x.number ∷ x.above) ≡ true → content_of one x.number ≡ content_of other x.number
      content-of x true t h i = let none = none-calculated x h t in of_one x.number none ∙ sym (of_other x.number none)
      content-of x false t h i =
          content-at x.number (erased x) (found-in (λ y. not (is_text y.content)) x.number bare (erased x) v.apart h (ap not (text-kept x.content ∙ t))) i

      replaced-of : (x : Visit) (above : List ℕ) → x.above ≡ above → found x.number bare ≡ Some (erased x) → has n above ≡ true → is_replaced (λ k. texts_given (content_of one k)) above ≡ is_replaced (λ k. texts_given (content_of other k)) above
      replaced-of x [] a h i = refl
      replaced-of x (p ∷ ps) a h i =
          let z = opened (found p (untexted bare)) ps (v.closed x.number p ps (erased x) h a) in
          ap (λ c. is_some (texts_given c)) (content-at p z.0 z.1 (ap (λ ns. has n (p ∷ ns)) z.2 ∙ i))

      other-number : (k : ℕ) (c : Bool) → (k == n) ≡ c → (k ≡ n → ⊥) → c ≡ false
      other-number k true h never = absurd (never (eqb-true k n h))
      other-number k false h never = refl

      same-at : (x : Visit) → found x.number bare ≡ Some (erased x) → SameAt n one other x
      same-at x h = record {
        itself = content-of x (is_text x.content) refl h;
        parent = λ i. replaced-of x x.above refl h i;
        no_text = λ t. other-number x.number (x.number == n) refl (λ same. text-no_solid x.number x h t (subst (IsSolid bare) (sym same) solid));
        no_given = other-number (text_number x.number) (text_number x.number == n) refl (λ same.
            let small = ltb-true n (2 ^ 128) (bare_below scope b forest entries data_are n (present n bare solid.0 (solid-found bare v n solid.0 solid.1).0)) in
            omega (arith, small, same));
      }

      strings : string_value n (holding all one) ≡ string_value n (holding all other)
      strings = string_value-kept n all one other (each_then _ (SameAt n one other) same-at all (each-erased (λ y. found y.number bare ≡ Some y) all (self-found bare v.apart)))

  -- ---- the agreement law for all calculates, and what follows

  module _ (calculated : AllOf (IsCovered scope forest) (calculates entries)) where
    pub calculates-agree : Agrees b scope entries all
    calculates-agree = each_then _ _ (λ e covered one other of_one of_other agree.
        ap (λ t. (e.node, fitting b.limits.text t)) (text-same scope b forest entries data_are e covered one other
        (λ n i k. strings e covered one other agree n i k calculated of_one of_other))) (calculates entries) calculated

    module _ (standing : AreStanding entries all) (acyclic : AreAcyclic scope entries all) where
      -- where no cycle stands, settled contents are the ones that the rounds give ..
      pub settled-only : (contents : Contents) → IsSettled b scope entries all contents → contents ≡ settled_contents b scope entries all
      settled-only = settled-unique b scope entries all standing acyclic calculates-agree

      -- .. and these are settled
      pub settled-are : IsSettled b scope entries all (settled_contents b scope entries all)
      settled-are = settled-stands b scope entries all standing acyclic calculates-agree

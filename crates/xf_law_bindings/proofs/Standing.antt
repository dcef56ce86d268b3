-- What stands for a node that is no text, told of the forest without its texts.
use Rattle.std.proofs.Common.{◌≡◌, ℕ, ◌==◌, Bool, true, false, not, cond, ◌&&◌, List, [], ◌∷◌, map, Option, Some, None, option_map, refl, sym, ap, ◌∙◌, subst}
use Rattle.std.specs.Prelude.{filter}
use Rattle.std.proofs.lemmas.Bool.{eqb-true}
use Rattle.xf_def_forest.specs.declared.content.Content.{Content}
use Rattle.xf_def_forest.specs.declared.content.Content.TheVariants as content
use Rattle.xf_def_forest.specs.Forest.{Forest, is_attribute, is_element, is_root, is_text}
use Rattle.xf_def_forest.specs.Shape.{erased, without_text}
use Rattle.xf_def_forest.specs.Visit.{Visit, children_of, first_of, has, is_first, visits}
use Rattle.xf_def_forest.specs.WellFormed.{HasTrees}
use Rattle.xf_def_xpath.specs.Asked.{found}
use Rattle.xf_def_xpath.specs.Agree.{AreVisits, are_apart, numbers_of, untexted}
use Rattle.xf_def_xpath.specs.Binding.{stand_in, stand_ins}
use Rattle.xf_def_xpath.proofs.VisitFacts.{no, none-some, or-left, self-same, some-same, found-number}
use Rattle.xf_def_xpath.proofs.ForestVisits.{Each, forest-visits, self-found}
use Rattle.xf_def_xpath.proofs.SameKept.{kept-found}
use Rattle.xf_def_xpath.proofs.UntextedLaws.{bare-apart, solid-found}
use Rattle.xf_law_recalculation.specs.Agree.Settles.{AreHung}

-- a forest without texts
abbrev pub solid : List Visit → List Visit
solid xs = untexted (map erased xs)

bare-text : (c : Content) → is_text (without_text c) ≡ is_text c
bare-text content.Root = refl
bare-text (content.Element name) = refl
bare-text (content.Attribute name old) = refl
bare-text (content.Text old) = refl

bare-attribute : (c : Content) → is_attribute (without_text c) ≡ is_attribute c
bare-attribute content.Root = refl
bare-attribute (content.Element name) = refl
bare-attribute (content.Attribute name old) = refl
bare-attribute (content.Text old) = refl

found-bare : (k : ℕ) (xs : List Visit) → found k (map erased xs) ≡ option_map erased (found k xs)
found-bare k [] = refl
found-bare k (x ∷ xs) = by (x.number == k) (found-bare k xs)
  where
    by : (b : Bool) → found k (map erased xs) ≡ option_map erased (found k xs) → cond b (Some (erased x)) (found k (map erased xs)) ≡ option_map erased (cond b (Some x) (found k xs))
    by true h = refl
    by false h = h

-- a node as it is, of which this is the visit with an empty text
original : (k : ℕ) (xs : List Visit) (y : Visit) → found k (map erased xs) ≡ Some y → (x : Visit) × (found k xs ≡ Some x) × (erased x ≡ y)
original k xs y e = by (found k xs) refl (sym (found-bare k xs) ∙ e)
  where
    by : (o : Option Visit) → found k xs ≡ o → option_map erased o ≡ Some y → (x : Visit) × (found k xs ≡ Some x) × (erased x ≡ y)
    by None i j = none-some j
    by (Some x) i j = (x, i, some-same j)

-- ---- children of a root

abbrev is_child : ℕ → Visit → Bool
is_child n x = is_first n x.above && not (is_attribute x.content)

root-element : (c : Content) → is_root c ≡ true → is_element c ≡ true → false ≡ true
root-element content.Root r e = e
root-element (content.Element name) r e = r
root-element (content.Attribute name old) r e = r
root-element (content.Text old) r e = r

-- those of the solid nodes, where no text is among them
children-solid : (n : ℕ) (xs : List Visit) → Each (λ v. is_text v.content ≡ true → is_first n v.above ≡ false) xs → children_of n (solid xs) ≡ children_of n xs
children-solid n [] h = refl
children-solid n (x ∷ xs) h = by (is_text x.content) refl (children-solid n xs h.1)
  where
    by : (b : Bool) → is_text x.content ≡ b → children_of n (solid xs) ≡ children_of n xs → children_of n (cond (not (is_text (without_text x.content))) (erased x ∷ solid xs) (solid xs)) ≡ children_of n (x ∷ xs)
    by true e i =
        ap (λ t. children_of n (cond (not t) (erased x ∷ solid xs) (solid xs))) (bare-text x.content ∙ e) ∙ i
        ∙ sym (ap (λ b. map (λ (y : Visit). y.number) (cond (b && not (is_attribute x.content)) (x ∷ filter (is_child n) xs) (filter (is_child n) xs))) (h.0 e))
    by false e i =
        ap (λ t. children_of n (cond (not t) (erased x ∷ solid xs) (solid xs))) (bare-text x.content ∙ e)
        ∙ ap (λ b. map (λ (y : Visit). y.number) (cond (is_first n x.above && not b) (erased x ∷ filter (is_child n) (solid xs)) (filter (is_child n) (solid xs)))) (bare-attribute x.content)
        ∙ of (is_first n x.above && not (is_attribute x.content)) i
      where
        of : (c : Bool) → children_of n (solid xs) ≡ children_of n xs
            → map (λ (y : Visit). y.number) (cond c (erased x ∷ filter (is_child n) (solid xs)) (filter (is_child n) (solid xs))) ≡ map (λ (y : Visit). y.number) (cond c (x ∷ filter (is_child n) xs) (filter (is_child n) xs))
        of true j = ap (λ l. x.number ∷ l) j
        of false j = j

-- ---- what stands for a node

-- a node that is no text
abbrev pub IsIn : List Visit → ℕ → Type 0
IsIn all k = (x : Visit) × (found k (solid all) ≡ Some x)

module _ (forest : Forest) (trees : HasTrees forest) (hung : AreHung (visits forest.nodes)) where
  abbrev V : List Visit
  V = visits forest.nodes

  abbrev A : List Visit
  A = map erased V

  v : AreVisits A
  v = forest-visits forest trees

  all-found : Each (λ x. found x.number V ≡ Some x) V
  all-found = self-found V (subst (λ ns. are_apart ns ≡ true) (same V) v.apart)
    where
      same : (xs : List Visit) → numbers_of (map erased xs) ≡ numbers_of xs
      same [] = refl
      same (x ∷ xs) = ap (λ l. x.number ∷ l) (same xs)

  -- no text stands in a root
  no-text : (n : ℕ) (r : Visit) → found n V ≡ Some r → is_root r.content ≡ true → Each (λ x. is_text x.content ≡ true → is_first n x.above ≡ false) V
  no-text n r at root = each V all-found
    where
      one : (x : Visit) → found x.number V ≡ Some x → is_text x.content ≡ true → is_first n x.above ≡ false
      one x f t =
          let (q, z, there, element, above) = hung x.number x f t in
          ap (is_first n) above ∙ by (n == q) q z refl there element
        where
          by : (b : Bool) (q : ℕ) (z : Visit) → (n == q) ≡ b → found q V ≡ Some z → is_element z.content ≡ true → b ≡ false
          by false q z i there element = refl
          by true q z i there element = no (root-element r.content root (ap (λ (y : Visit). is_element y.content) (some-same (sym at ∙ ap (λ k. found k V) (eqb-true n q i) ∙ there)) ∙ element))

      each : (xs : List Visit) → Each (λ x. found x.number V ≡ Some x) xs → Each (λ x. is_text x.content ≡ true → is_first n x.above ≡ false) xs
      each [] h = tt
      each (x ∷ xs) h = (one x h.0, each xs h.1)

  -- told of the solid nodes
  pub stand-told : (k : ℕ) (x : Visit) → found k (solid V) ≡ Some x → stand_ins V (found k V) ≡ stand_in (solid V) x x.content
  stand-told k x e =
      let out = solid-found A v k x e in
      let y = original k V x out.0 in
      ap (stand_ins V) y.1 ∙ of y.0 y.0.content refl y.1 (ap (λ c. not (is_text c)) (ap (λ (z : Visit). z.content) y.2) ∙ out.1) ∙ ap (λ (z : Visit). stand_in (solid V) z z.content) y.2
    where
      of : (y : Visit) (c : Content) → y.content ≡ c → found k V ≡ Some y → not (is_text (without_text y.content)) ≡ true → stand_in V y y.content ≡ stand_in (solid V) (erased y) (without_text y.content)
      of y content.Root i at s =
          ap (stand_in V y) i ∙ sym (children-solid y.number V (no-text y.number y (ap (λ j. found j V) (found-number k V y at) ∙ at) (ap is_root i))) ∙ ap (λ d. stand_in (solid V) (erased y) (without_text d)) (sym i)
      of y (content.Element name) i at s = ap (stand_in V y) i ∙ ap (λ d. stand_in (solid V) (erased y) (without_text d)) (sym i)
      of y (content.Attribute name old) i at s = ap (stand_in V y) i ∙ ap (λ d. stand_in (solid V) (erased y) (without_text d)) (sym i)
      of y (content.Text old) i at s = no (sym (ap (λ d. not (is_text (without_text d))) i) ∙ s)

  -- it is no text
  pub stand-in : (k : ℕ) (x : Visit) (j : ℕ) → found k (solid V) ≡ Some x → first_of (stand_in (solid V) x x.content) ≡ Some j → IsIn V j
  stand-in k x j e f = of x.content refl f
    where
      itself : first_of (x.number ∷ []) ≡ Some j → IsIn V j
      itself i = (x, ap (λ m. found m (solid V)) (sym (some-same i) ∙ found-number k (solid V) x e) ∙ e)

      first-has : (ns : List ℕ) → first_of ns ≡ Some j → has j ns ≡ true
      first-has [] i = none-some i
      first-has (n ∷ ns) i = or-left (j == n) (has j ns) (ap (λ m. j == m) (some-same i) ∙ self-same j)

      of : (c : Content) → x.content ≡ c → first_of (stand_in (solid V) x c) ≡ Some j → IsIn V j
      of content.Root i g =
          let y = kept-found (λ z. is_first x.number z.above && not (is_attribute z.content)) j (solid V) (bare-apart A v) (first-has (children_of x.number (solid V)) g) in
          (y.0, y.1)
      of (content.Element name) i g = itself g
      of (content.Attribute name old) i g = itself g
      of (content.Text old) i g = no (sym (ap (λ c. not (is_text c)) i) ∙ (solid-found A v k x e).1)

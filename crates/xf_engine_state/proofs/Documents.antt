-- The document elements of instances are told by the shape of the data, where texts stand in elements.
use Rattle.std.proofs.Common.{◌≡◌, ℕ, zero, suc, ◌==◌, Bool, true, false, not, cond, ◌&&◌, List, [], ◌∷◌, map, Option, Some, None, refl, sym, ap, ◌∙◌, subst}
use Rattle.std.specs.Prelude.{filter}
use Rattle.std.proofs.lemmas.Bool.{eqb-true}
use Rattle.xf_def_forest.specs.declared.content.Content.{Content}
use Rattle.xf_def_forest.specs.declared.content.Content.TheVariants as content
use Rattle.xf_def_forest.specs.declared.content.Node.{Node}
use Rattle.xf_def_forest.specs.Changes.{root_of}
use Rattle.xf_def_forest.specs.Forest.{Forest, is_attribute, is_element, is_root, is_text}
use Rattle.xf_def_forest.specs.Shape.{erased, shape_of, without_text}
use Rattle.xf_def_forest.specs.Visit.{Visit, children_of, first_of, is_first, still_above, visits, visits_from}
use Rattle.xf_def_forest.specs.WellFormed.{HasTrees}
use Rattle.xf_def_xpath.specs.Agree.{are_apart, numbers_of, untexted}
use Rattle.xf_def_xpath.specs.Asked.{found}
use Rattle.xf_def_xpath.proofs.ForestVisits.{Each, forest-visits, self-found}
use Rattle.xf_def_xpath.proofs.ShapeVisits.{shape-untexted}
use Rattle.xf_def_xpath.proofs.VisitFacts.{no, none-some, some-same}
use Rattle.xf_law_recalculation.specs.Agree.Hung.{are_hung}
use Rattle.xf_law_recalculation.specs.Agree.Settles.{AreHung}
use Rattle.xf_law_recalculation.proofs.AgreeLemmas.HungLaws.{hung_forest}
use Rattle.xf_engine_state.specs.Around.{document_below, documents_from}

-- ---- roots

abbrev pub root_in : ℕ → List Visit → Option ℕ
root_in place [] = None
root_in zero (x ∷ xs) = cond (is_root x.content) (Some x.number) (root_in zero xs)
root_in (suc place) (x ∷ xs) = cond (is_root x.content) (root_in place xs) (root_in (suc place) xs)

roots-visited : (place : ℕ) (above nodes : List Node) → root_of place nodes ≡ root_in place (visits_from above nodes)
roots-visited place above [] = refl
roots-visited zero above (x ∷ xs) = ap (cond (is_root x.content) (Some x.number)) (roots-visited zero (x ∷ still_above x.depth above) xs)
roots-visited (suc place) above (x ∷ xs) =
    ap (λ o. cond (is_root x.content) o (root_of (suc place) xs)) (roots-visited place (x ∷ still_above x.depth above) xs)
    ∙ ap (cond (is_root x.content) (root_in place (visits_from (x ∷ still_above x.depth above) xs))) (roots-visited (suc place) (x ∷ still_above x.depth above) xs)

bare-root : (c : Content) → is_root (without_text c) ≡ is_root c
bare-root content.Root = refl
bare-root (content.Element name) = refl
bare-root (content.Attribute name old) = refl
bare-root (content.Text old) = refl

text-root : (c : Content) → is_text c ≡ true → is_root c ≡ false
text-root content.Root h = no h
text-root (content.Element name) h = refl
text-root (content.Attribute name old) h = refl
text-root (content.Text old) h = refl

-- texts are none
abbrev solid : List Visit → List Visit
solid xs = untexted (map erased xs)

bare-text : (c : Content) → is_text (without_text c) ≡ is_text c
bare-text content.Root = refl
bare-text (content.Element name) = refl
bare-text (content.Attribute name old) = refl
bare-text (content.Text old) = refl

bare-attribute : (c : Content) → is_attribute (without_text c) ≡ is_attribute c
bare-attribute content.Root = refl
bare-attribute (content.Element name) = refl
bare-attribute (content.Attribute name old) = refl
bare-attribute (content.Text old) = refl

roots-solid : (place : ℕ) (xs : List Visit) → root_in place (solid xs) ≡ root_in place xs
roots-solid place [] = refl
roots-solid place (x ∷ xs) = by place (is_text x.content) refl (λ p. roots-solid p xs)
  where
    by : (place : ℕ) (b : Bool) → is_text x.content ≡ b → ((p : ℕ) → root_in p (solid xs) ≡ root_in p xs)
        → root_in place (cond (not (is_text (without_text x.content))) (erased x ∷ solid xs) (solid xs)) ≡ root_in place (x ∷ xs)
    by place true e later =
        ap (λ t. root_in place (cond (not t) (erased x ∷ solid xs) (solid xs))) (bare-text x.content ∙ e) ∙ later place ∙ sym (skipped place)
      where
        skipped : (p : ℕ) → root_in p (x ∷ xs) ≡ root_in p xs
        skipped zero = ap (λ r. cond r (Some x.number) (root_in zero xs)) (text-root x.content e)
        skipped (suc p) = ap (λ r. cond r (root_in p xs) (root_in (suc p) xs)) (text-root x.content e)
    by place false e later = ap (λ t. root_in place (cond (not t) (erased x ∷ solid xs) (solid xs))) (bare-text x.content ∙ e) ∙ kept place
      where
        kept : (p : ℕ) → root_in p (erased x ∷ solid xs) ≡ root_in p (x ∷ xs)
        kept zero = ap (λ r. cond r (Some x.number) (root_in zero (solid xs))) (bare-root x.content) ∙ ap (cond (is_root x.content) (Some x.number)) (later zero)
        kept (suc p) =
            ap (λ r. cond r (root_in p (solid xs)) (root_in (suc p) (solid xs))) (bare-root x.content)
            ∙ ap (λ o. cond (is_root x.content) o (root_in (suc p) (solid xs))) (later p) ∙ ap (cond (is_root x.content) (root_in p xs)) (later (suc p))

-- forests of one shape have their roots in common
root-shaped : (place : ℕ) (nodes : List Node) → root_of place nodes ≡ root_in place (untexted (map erased (shape_of nodes)))
root-shaped place nodes = roots-visited place [] nodes ∙ sym (roots-solid place (visits nodes)) ∙ ap (root_in place) (sym (shape-untexted (visits nodes)))

pub roots-same : (place : ℕ) (before after : List Node) → shape_of after ≡ shape_of before → root_of place after ≡ root_of place before
roots-same place before after same =
    root-shaped place after ∙ ap (λ s. root_in place (untexted (map erased s))) same ∙ sym (root-shaped place before)

-- the root stands
root-found : (place n : ℕ) (xs : List Visit) → root_in place xs ≡ Some n → Each (λ v. found v.number xs ≡ Some v) xs → (y : Visit) × (found n xs ≡ Some y) × (is_root y.content ≡ true)
root-found place n xs e each = of xs place e each
  where
    of : (ys : List Visit) (place : ℕ) → root_in place ys ≡ Some n → Each (λ v. found v.number xs ≡ Some v) ys → (y : Visit) × (found n xs ≡ Some y) × (is_root y.content ≡ true)
    of [] place e h = none-some e
    of (y ∷ ys) zero e h = by (is_root y.content) refl e (λ i. of ys zero i h.1)
      where
        by : (b : Bool) → is_root y.content ≡ b → cond b (Some y.number) (root_in zero ys) ≡ Some n → (root_in zero ys ≡ Some n → (z : Visit) × (found n xs ≡ Some z) × (is_root z.content ≡ true))
            → (z : Visit) × (found n xs ≡ Some z) × (is_root z.content ≡ true)
        by true r i later = (y, ap (λ k. found k xs) (sym (some-same i)) ∙ h.0, r)
        by false r i later = later i
    of (y ∷ ys) (suc place) e h = by (is_root y.content) e (λ i. of ys place i h.1) (λ i. of ys (suc place) i h.1)
      where
        by : (b : Bool) → cond b (root_in place ys) (root_in (suc place) ys) ≡ Some n → (root_in place ys ≡ Some n → (z : Visit) × (found n xs ≡ Some z) × (is_root z.content ≡ true))
            → (root_in (suc place) ys ≡ Some n → (z : Visit) × (found n xs ≡ Some z) × (is_root z.content ≡ true)) → (z : Visit) × (found n xs ≡ Some z) × (is_root z.content ≡ true)
        by true i one other = one i
        by false i one other = other i

-- ---- children of a root

abbrev is_child : ℕ → Visit → Bool
is_child n x = is_first n x.above && not (is_attribute x.content)

root-element : (c : Content) → is_root c ≡ true → is_element c ≡ true → false ≡ true
root-element content.Root r e = e
root-element (content.Element name) r e = r
root-element (content.Attribute name old) r e = r
root-element (content.Text old) r e = r

-- those of the solid nodes, where no text is among them
children-solid : (n : ℕ) (xs : List Visit) → Each (λ v. is_text v.content ≡ true → is_first n v.above ≡ false) xs → children_of n (solid xs) ≡ children_of n xs
children-solid n [] h = refl
children-solid n (x ∷ xs) h = by (is_text x.content) refl (children-solid n xs h.1)
  where
    by : (b : Bool) → is_text x.content ≡ b → children_of n (solid xs) ≡ children_of n xs → children_of n (cond (not (is_text (without_text x.content))) (erased x ∷ solid xs) (solid xs)) ≡ children_of n (x ∷ xs)
    by true e i =
        ap (λ t. children_of n (cond (not t) (erased x ∷ solid xs) (solid xs))) (bare-text x.content ∙ e) ∙ i
        ∙ sym (ap (λ b. map (λ (y : Visit). y.number) (cond (b && not (is_attribute x.content)) (x ∷ filter (is_child n) xs) (filter (is_child n) xs))) (h.0 e))
    by false e i =
        ap (λ t. children_of n (cond (not t) (erased x ∷ solid xs) (solid xs))) (bare-text x.content ∙ e)
        ∙ ap (λ b. map (λ (y : Visit). y.number) (cond (is_first n x.above && not b) (erased x ∷ filter (is_child n) (solid xs)) (filter (is_child n) (solid xs)))) (bare-attribute x.content)
        ∙ of (is_first n x.above && not (is_attribute x.content)) i
      where
        of : (c : Bool) → children_of n (solid xs) ≡ children_of n xs
            → map (λ (y : Visit). y.number) (cond c (erased x ∷ filter (is_child n) (solid xs)) (filter (is_child n) (solid xs))) ≡ map (λ (y : Visit). y.number) (cond c (x ∷ filter (is_child n) xs) (filter (is_child n) xs))
        of true j = ap (λ l. x.number ∷ l) j
        of false j = j

abbrev pub below_in : List Visit → Option ℕ → Option ℕ
below_in all None = None
below_in all (Some root) = first_of (children_of root all)

abbrev pub documents_in : {X : Type 0} → ℕ → List X → List Visit → List (Option ℕ)
documents_in place [] xs = []
documents_in place (i ∷ is) xs = below_in xs (root_in place xs) ∷ documents_in (suc place) is xs

module _ (forest : Forest) (trees : HasTrees forest) (hung : AreHung (visits forest.nodes)) where
  abbrev all : List Visit
  all = visits forest.nodes

  -- numbers of visits differ
  all-found : Each (λ v. found v.number all ≡ Some v) all
  all-found = self-found all (subst (λ ns. are_apart ns ≡ true) (same all) (forest-visits forest trees).apart)
    where
      same : (xs : List Visit) → numbers_of (map erased xs) ≡ numbers_of xs
      same [] = refl
      same (x ∷ xs) = ap (λ l. x.number ∷ l) (same xs)

  no-text : (place n : ℕ) → root_in place all ≡ Some n → Each (λ v. is_text v.content ≡ true → is_first n v.above ≡ false) all
  no-text place n e = each all all-found
    where
      root : (y : Visit) × (found n all ≡ Some y) × (is_root y.content ≡ true)
      root = root-found place n all e all-found

      one : (v : Visit) → found v.number all ≡ Some v → is_text v.content ≡ true → is_first n v.above ≡ false
      one v f t =
          let (q, z, there, element, above) = hung v.number v f t in
          ap (is_first n) above ∙ by (n == q) q z refl there element
        where
          by : (b : Bool) (q : ℕ) (z : Visit) → (n == q) ≡ b → found q all ≡ Some z → is_element z.content ≡ true → b ≡ false
          by false q z i there element = refl
          by true q z i there element = no (root-element root.0.content root.2 (ap (λ (y : Visit). is_element y.content) (some-same (sym root.1 ∙ ap (λ k. found k all) (eqb-true n q i) ∙ there)) ∙ element))

      each : (xs : List Visit) → Each (λ v. found v.number all ≡ Some v) xs → Each (λ v. is_text v.content ≡ true → is_first n v.above ≡ false) xs
      each [] h = tt
      each (x ∷ xs) h = (one x h.0, each xs h.1)

  below-solid : (place : ℕ) (o : Option ℕ) → root_in place all ≡ o → document_below forest.nodes o ≡ below_in (solid all) o
  below-solid place None e = refl
  below-solid place (Some n) e = ap first_of (sym (children-solid n all (no-text place n e)))

  pub document-solid : (place : ℕ) → document_below forest.nodes (root_of place forest.nodes) ≡ below_in (solid all) (root_in place (solid all))
  document-solid place =
      ap (document_below forest.nodes) (roots-visited place [] forest.nodes)
      ∙ below-solid place (root_in place all) refl
      ∙ ap (below_in (solid all)) (sym (roots-solid place all))

  pub documents-solid : {X : Type 0} (place : ℕ) (is : List X) → documents_from place is forest.nodes ≡ documents_in place is (untexted (map erased (shape_of forest.nodes)))
  documents-solid place [] = refl
  documents-solid place (i ∷ is) =
      ap (λ d. d ∷ documents_from (suc place) is forest.nodes) (document-solid place ∙ ap (λ s. below_in s (root_in place s)) (sym (shape-untexted all)))
      ∙ ap (λ ds. below_in (untexted (map erased (shape_of forest.nodes))) (root_in place (untexted (map erased (shape_of forest.nodes)))) ∷ ds) (documents-solid (suc place) is)

-- two forests of one shape have the same
pub documents-same : {X : Type 0} (is : List X) (before after : Forest) → HasTrees before → HasTrees after → are_hung before.nodes ≡ true → are_hung after.nodes ≡ true
    → shape_of after.nodes ≡ shape_of before.nodes → documents_from 0 is after.nodes ≡ documents_from 0 is before.nodes
documents-same is before after b a hb ha same =
    documents-solid after a (hung_forest after a ha) 0 is
    ∙ ap (λ s. documents_in 0 is (untexted (map erased s))) same
    ∙ sym (documents-solid before b (hung_forest before b hb) 0 is)

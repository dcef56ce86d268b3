-- The document elements in the list of the instances: the place of an instance tells the root, and that the element.
use Rattle.std.proofs.Common.{◌≡◌, ℕ, zero, suc, ◌==◌, Bool, true, false, not, cond, ◌&&◌, ◌||◌, List, [], ◌∷◌, ◌++◌, map, Option, Some, None, option_map, is_some, bytes_eq, refl, sym, ap, ◌∙◌, inl, inr}
use Rattle.std.specs.Prelude.{filter, find}
use Rattle.xf_def_syntax.specs.declared.form.Instance.{Instance}
use Rattle.xf_def_forest.specs.declared.content.Node.{Node}
use Rattle.xf_def_forest.specs.Forest.{Forest, is_root, is_text, is_attribute}
use Rattle.xf_def_forest.specs.Visit.{Visit, visits, has, is_first, first_of, children_of}
use Rattle.xf_def_forest.specs.Shape.{erased}
use Rattle.xf_def_forest.specs.Changes.{root_of}
use Rattle.xf_def_forest.proofs.BackLaws.{and-true}
use Rattle.xf_def_xpath.specs.Given.{Document, document_of}
use Rattle.xf_def_xpath.specs.Asked.{found}
use Rattle.xf_def_xpath.specs.Agree.{numbers_of, are_apart, untexted}
use Rattle.xf_def_xpath.proofs.VisitFacts.{no, self-same, or-left, or-right, or-cases, some-same, none-some, filter-and, found-in}
use Rattle.xf_def_xpath.proofs.SameKept.{kept-found}
use Rattle.xf_law_recalculation.specs.Agree.Kept.{keeps, is_known}
use Rattle.xf_law_recalculation.specs.Marks.Marks.{is_unmarked}
use Rattle.xf_law_recalculation.specs.Marks.Instances.{standing}
use Rattle.xf_law_recalculation.proofs.MarksLemmas.Behind.{erased-apart}
use Rattle.xf_law_recalculation.proofs.MarksLemmas.TextLists.{headed}
use Rattle.xf_law_recalculation.specs.Change.Documents.{IsRootOf, is_root_in}
use Rattle.xf_law_recalculation.proofs.ChangeLemmas.Carry.{standing-apart}
use Rattle.xf_law_recalculation.proofs.ChangeLemmas.DocumentsStay.{children}
use Rattle.xf_law_recalculation.specs.Document.Documents.{element_under, element_at, document_of_instance, documents_from, have_documents}

-- ---- instances

-- the instance is that of a name
abbrev pub is_named : ℕ → List ℕ → Instance → Bool
is_named model [] i = i.model == model
is_named model (c ∷ cs) i = (i.model == model) && bytes_eq i.id (c ∷ cs)

-- the place of the first one with this test, of those that begin with a place
abbrev pub place_from : (Instance → Bool) → ℕ → List Instance → Option ℕ
place_from u place [] = None
place_from u place (i ∷ is) = cond (u i) (Some place) (place_from u (suc place) is)

abbrev pub element_in : List Node → Option ℕ → Option ℕ
element_in nodes None = None
element_in nodes (Some place) = element_at nodes place

found-at : (t : Document → Bool) (u : Instance → Bool) → ((i : Instance) (n : ℕ) → t (record { model = i.model; id = i.id; element = n }) ≡ u i) →
    (nodes : List Node) (place : ℕ) (is : List Instance) → have_documents place is nodes ≡ true → option_map (λ d. d.element) (find t (documents_from place is nodes)) ≡ element_in nodes (place_from u place is)
found-at t u same nodes place [] h = refl
found-at t u same nodes place (i ∷ is) h = by (element_at nodes place) refl h (found-at t u same nodes (suc place) is)
  where
    at : (b : Bool) (n : ℕ) → element_at nodes place ≡ Some n → option_map (λ (d : Document). d.element) (find t (documents_from (suc place) is nodes)) ≡ element_in nodes (place_from u (suc place) is) →
        option_map (λ (d : Document). d.element) (cond b (Some (record { model = i.model; id = i.id; element = n })) (find t (documents_from (suc place) is nodes))) ≡ element_in nodes (cond b (Some place) (place_from u (suc place) is))
    at true n e f = sym e
    at false n e f = f

    by : (o : Option ℕ) → element_at nodes place ≡ o → (is_some o && have_documents (suc place) is nodes) ≡ true →
        (have_documents (suc place) is nodes ≡ true → option_map (λ (d : Document). d.element) (find t (documents_from (suc place) is nodes)) ≡ element_in nodes (place_from u (suc place) is)) →
        option_map (λ (d : Document). d.element) (find t (document_of_instance i o ++ documents_from (suc place) is nodes)) ≡ element_in nodes (cond (u i) (Some place) (place_from u (suc place) is))
    by None e j f = no j
    by (Some n) e j f =
        ap (λ b. option_map (λ (d : Document). d.element) (cond b (Some (record { model = i.model; id = i.id; element = n })) (find t (documents_from (suc place) is nodes)))) (same i n)
        ∙ at (u i) n e (f j)

pub document-at : (model : ℕ) (id : List ℕ) (nodes : List Node) (is : List Instance) → have_documents 0 is nodes ≡ true →
    document_of model id (documents_from 0 is nodes) ≡ element_in nodes (place_from (is_named model id) 0 is)
document-at model [] nodes is h = found-at (λ d. d.model == model) (is_named model []) (λ i n. refl) nodes 0 is h
document-at model (c ∷ cs) nodes is h = found-at (λ d. (d.model == model) && bytes_eq d.id (c ∷ cs)) (is_named model (c ∷ cs)) (λ i n. refl) nodes 0 is h

-- at each of these places stands one
pub there-at : (u : Instance → Bool) (nodes : List Node) (place p : ℕ) (is : List Instance) → have_documents place is nodes ≡ true → place_from u place is ≡ Some p → is_some (element_at nodes p) ≡ true
there-at u nodes place p [] h e = none-some e
there-at u nodes place p (i ∷ is) h e = by (u i) e (there-at u nodes (suc place) p is parts.1)
  where
    parts : (is_some (element_at nodes place) ≡ true) × (have_documents (suc place) is nodes ≡ true)
    parts = and-true (is_some (element_at nodes place)) (have_documents (suc place) is nodes) h

    by : (b : Bool) → cond b (Some place) (place_from u (suc place) is) ≡ Some p → (place_from u (suc place) is ≡ Some p → is_some (element_at nodes p) ≡ true) → is_some (element_at nodes p) ≡ true
    by true j f = ap (λ q. is_some (element_at nodes q)) (sym (some-same j)) ∙ parts.0
    by false j f = f j

-- ---- roots

-- what has a place among the roots is one
pub root-in : (place root : ℕ) (nodes : List Node) → root_of place nodes ≡ Some root → is_root_in root nodes ≡ true
root-in place root [] e = none-some e
root-in zero root (x ∷ xs) e = by (is_root x.content) e (root-in zero root xs)
  where
    by : (b : Bool) → cond b (Some x.number) (root_of zero xs) ≡ Some root → (root_of zero xs ≡ Some root → is_root_in root xs ≡ true) → (((x.number == root) && b) || is_root_in root xs) ≡ true
    by true j f = ap (λ k. ((k == root) && true) || is_root_in root xs) (some-same j) ∙ ap (λ c. (c && true) || is_root_in root xs) (self-same root)
    by false j f = or-right ((x.number == root) && false) (is_root_in root xs) (f j)
root-in (suc place) root (x ∷ xs) e = or-right ((x.number == root) && is_root x.content) (is_root_in root xs) (by (is_root x.content) e (root-in place root xs) (root-in (suc place) root xs))
  where
    by : (b : Bool) → cond b (root_of place xs) (root_of (suc place) xs) ≡ Some root → (root_of place xs ≡ Some root → is_root_in root xs ≡ true) →
        (root_of (suc place) xs ≡ Some root → is_root_in root xs ≡ true) → is_root_in root xs ≡ true
    by true j f g = f j
    by false j f g = g j

-- ---- the first child of a root

first-in : (n : ℕ) (ns : List ℕ) → first_of ns ≡ Some n → has n ns ≡ true
first-in n [] e = none-some e
first-in n (m ∷ ms) e = ap (λ k. (n == k) || has n ms) (some-same e) ∙ or-left (n == n) (has n ms) (self-same n)

module _ (root : ℕ) (forest : Forest) (is : IsRootOf root forest) where
  abbrev E : List Visit
  E = map erased (standing forest)

  apart : are_apart (numbers_of E) ≡ true
  apart = erased-apart (standing forest) (standing-apart forest is.trees)

  -- it stands in the instances, is no text, and stands in the root
  pub record IsBelow (n : ℕ) : Type 0 where
    pub visit : Visit
    pub seen : found n E ≡ Some visit
    pub solid : found n (untexted E) ≡ Some visit
    pub first : is_first root visit.above ≡ true

  -- where the root is marked as a node with other texts, no text counts: the children are these
  abbrev keep : Visit → Bool
  keep = keeps (is_unmarked (root ∷ []))

  abbrev is_child : Visit → Bool
  is_child y = (keep y && is_first root y.above) && not (is_attribute y.content)

  the-children : children_of root (visits forest.nodes) ≡ numbers_of (filter is_child E)
  the-children =
      children root forest is (root ∷ [])
      ∙ ap numbers_of (sym (filter-and (λ y. not (is_attribute y.content)) (λ y. keep y && is_first root y.above) E ∙ ap (filter (λ (y : Visit). not (is_attribute y.content))) (filter-and (λ y. is_first root y.above) keep E)))

  no-text : (y : Visit) → keep y ≡ true → is_first root y.above ≡ true → not (is_text y.content) ≡ true
  no-text y k f =
      let above = headed root y.above f in
      elim (or-cases (not (is_text y.content)) (is_known (is_unmarked (root ∷ [])) y.above) k) [
        | inl i ↦ i
        | inr i ↦ no (sym (ap (λ b. not (b || false)) (self-same root)) ∙ ap (is_known (is_unmarked (root ∷ []))) (sym above.1) ∙ i)
      ]

  pub first-below : (n : ℕ) → element_under forest.nodes (Some root) ≡ Some n → IsBelow n
  first-below n e =
      let y = kept-found is_child n E apart (first-in n (numbers_of (filter is_child E)) (ap first_of (sym the-children) ∙ e)) in
      let child = and-true (keep y.0 && is_first root y.0.above) (not (is_attribute y.0.content)) y.2 in
      let parts = and-true (keep y.0) (is_first root y.0.above) child.0 in
      record { visit = y.0; seen = y.1; solid = found-in (λ y. not (is_text y.content)) n E y.0 apart y.1 (no-text y.0 parts.0 parts.1); first = parts.1 }

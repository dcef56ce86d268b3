-- The document elements follow a change.
use Rattle.std.proofs.Common.{◌≡◌, ℕ, Bool, true, false, List, [], ◌∷◌, map, Option, Some, None, is_some, refl, sym, ap, ◌∙◌, inl, inr}
use Rattle.std.specs.Prelude.{◌⊎◌}
use Rattle.xf_def_syntax.specs.declared.form.Instance.{Instance}
use Rattle.xf_def_forest.specs.Forest.{Forest}
use Rattle.xf_def_forest.specs.Visit.{has, first_of}
use Rattle.xf_def_forest.specs.Shape.{erased}
use Rattle.xf_def_forest.specs.Changes.{root_of}
use Rattle.xf_def_xpath.specs.Binding.{as_list}
use Rattle.xf_def_xpath.specs.Given.{document_of}
use Rattle.xf_def_xpath.specs.Asked.{parent_in, list_around}
use Rattle.xf_def_xpath.proofs.VisitFacts.{no, self-same, or-left, none-some}
use Rattle.xf_def_model.specs.Rules.{Scope}
use Rattle.xf_law_recalculation.specs.Agree.Settles.{IsSolid}
use Rattle.xf_law_recalculation.specs.Marks.Marks.{SameNodes}
use Rattle.xf_law_recalculation.specs.Marks.Instances.{standing}
use Rattle.xf_law_recalculation.proofs.MarksLemmas.TextLists.{headed}
use Rattle.xf_law_recalculation.specs.Change.Documents.{IsRootOf}
use Rattle.xf_law_recalculation.proofs.ChangeLemmas.Carry.{differ-of}
use Rattle.xf_law_recalculation.proofs.ChangeLemmas.DocumentsStay.{document_stays}
use Rattle.xf_law_recalculation.proofs.ChangeLemmas.RootsStay.{root_stands}
use Rattle.xf_law_recalculation.specs.Document.Documents.{element_under, HasDocuments, ByRoots, SamePlaces, DocumentsFollow}
use Rattle.xf_law_recalculation.proofs.DocumentLemmas.Elements.{is_named, place_from, element_in, document-at, there-at, root-in, IsBelow, first-below}

-- ---- the document element of one name

-- the root above it
pub record IsUnder (instances : List Instance) (forest : Forest) (model : ℕ) (id : List ℕ) (n : ℕ) : Type 0 where
  pub place : ℕ
  pub named : place_from (is_named model id) 0 instances ≡ Some place
  pub root : ℕ
  pub at : root_of place forest.nodes ≡ Some root
  pub first : element_under forest.nodes (Some root) ≡ Some n

pub under : (instances : List Instance) (forest : Forest) (model : ℕ) (id : List ℕ) (n : ℕ) → element_in forest.nodes (place_from (is_named model id) 0 instances) ≡ Some n → IsUnder instances forest model id n
under instances forest model id n e = by (place_from (is_named model id) 0 instances) refl e
  where
    by : (o : Option ℕ) → place_from (is_named model id) 0 instances ≡ o → element_in forest.nodes o ≡ Some n → IsUnder instances forest model id n
    by None i j = none-some j
    by (Some place) i j = of (root_of place forest.nodes) refl j
      where
        of : (r : Option ℕ) → root_of place forest.nodes ≡ r → element_under forest.nodes r ≡ Some n → IsUnder instances forest model id n
        of None k l = none-some l
        of (Some root) k l = record { place = place; named = i; root = root; at = k; first = l }

pub is-root : (root place : ℕ) (instances : List Instance) (forest : Forest) → HasDocuments instances forest → root_of place forest.nodes ≡ Some root → IsRootOf root forest
is-root root place instances forest h e = root_stands root forest h.trees h.hung h.ahead (root-in place root forest.nodes e)

-- the list in which it stands is that of the root
pub list-around : (root : ℕ) (forest : Forest) (is : IsRootOf root forest) (n : ℕ) → IsBelow root forest is n → list_around (map erased (standing forest)) n ≡ root ∷ []
list-around root forest is n b = ap parent_in b.seen ∙ ap (λ ns. as_list (first_of ns)) (headed root b.visit.above b.first).1

-- ---- the law

module _ (texts since lists : List ℕ) (instances : List Instance) (scope later : Scope) (forest after : Forest) (by_roots : ByRoots instances scope later forest after) (places : SamePlaces forest after)
    (nodes : SameNodes texts since (standing after) (standing forest)) (wider : (k : ℕ) → has k since ≡ true → has k lists ≡ true) where
  now-at : (id : List ℕ) → document_of later.model id later.given.documents ≡ element_in after.nodes (place_from (is_named scope.model id) 0 instances)
  now-at id =
      ap (document_of later.model id) by_roots.now ∙ document-at later.model id after.nodes instances by_roots.has_after.documents
      ∙ ap (λ m. element_in after.nodes (place_from (is_named m id) 0 instances)) by_roots.model

  before-at : (id : List ℕ) → document_of scope.model id scope.given.documents ≡ element_in forest.nodes (place_from (is_named scope.model id) 0 instances)
  before-at id = ap (document_of scope.model id) by_roots.before ∙ document-at scope.model id forest.nodes instances by_roots.has_before.documents

  now-under : (id : List ℕ) (n : ℕ) → document_of later.model id later.given.documents ≡ Some n → IsUnder instances after scope.model id n
  now-under id n e = under instances after scope.model id n (sym (now-at id) ∙ e)

  pub stand : (id : List ℕ) (n : ℕ) → document_of later.model id later.given.documents ≡ Some n → IsSolid (standing after) n
  stand id n e =
      let u = now-under id n e in
      let b = first-below u.root after (is-root u.root u.place instances after by_roots.has_after u.at) n u.first in
      (b.visit, b.solid)

  pub each : (id : List ℕ) (n : ℕ) → document_of later.model id later.given.documents ≡ Some n →
      (document_of scope.model id scope.given.documents ≡ Some n) ⊎ ((m : ℕ) × (has m (list_around (map erased (standing after)) n) ≡ true) × (has m lists ≡ true))
  each id n e = by (has u.root lists) refl
    where
      u : IsUnder instances after scope.model id n
      u = now-under id n e

      at_before : root_of u.place forest.nodes ≡ Some u.root
      at_before = sym (places u.place) ∙ u.at

      one : IsRootOf u.root forest
      one = is-root u.root u.place instances forest by_roots.has_before at_before

      two : IsRootOf u.root after
      two = is-root u.root u.place instances after by_roots.has_after u.at

      by : (b : Bool) → has u.root lists ≡ b →
          (document_of scope.model id scope.given.documents ≡ Some n) ⊎ ((m : ℕ) × (has m (list_around (map erased (standing after)) n) ≡ true) × (has m lists ≡ true))
      by true h = inr (u.root, ap (has u.root) (list-around u.root after two n (first-below u.root after two n u.first)) ∙ or-left _ false (self-same u.root), h)
      by false h =
          let free : has u.root since ≡ false = differ-of (has u.root since) (λ i. sym (wider u.root i) ∙ h) in
          inl (before-at id ∙ ap (element_in forest.nodes) u.named ∙ ap (element_under forest.nodes) at_before ∙ sym (document_stays texts since u.root forest after one two free nodes) ∙ u.first)

  pub none : (id : List ℕ) → document_of later.model id later.given.documents ≡ None → document_of scope.model id scope.given.documents ≡ None
  none id e = by (place_from (is_named scope.model id) 0 instances) refl (sym (now-at id) ∙ e)
    where
      by : (o : Option ℕ) → place_from (is_named scope.model id) 0 instances ≡ o → element_in after.nodes o ≡ None → document_of scope.model id scope.given.documents ≡ None
      by None i j = before-at id ∙ ap (element_in forest.nodes) i
      by (Some place) i j = no (sym (ap is_some j) ∙ there-at (is_named scope.model id) after.nodes 0 place instances by_roots.has_after.documents i)

pub documents_follow : DocumentsFollow
documents_follow texts since lists instances scope later forest after by_roots places nodes wider = record {
  model = by_roots.model;
  stand = stand texts since lists instances scope later forest after by_roots places nodes wider;
  each = each texts since lists instances scope later forest after by_roots places nodes wider;
  none = none texts since lists instances scope later forest after by_roots places nodes wider;
}

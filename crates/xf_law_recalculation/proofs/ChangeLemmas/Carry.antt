-- From nodes that are carried on to the whole: the document elements follow.
use Rattle.std.proofs.Common.{◌≡◌, ℕ, ◌==◌, Bool, true, false, not, ◌||◌, List, [], ◌∷◌, map, nat_lt, Some, refl, sym, ap, ◌∙◌, inl, inr, arith}
use Rattle.std.proofs.lemmas.Bool.Decides.{nat_tests}
use Rattle.xf_def_forest.specs.declared.content.Node.{Node}
use Rattle.xf_def_forest.specs.Forest.{Forest, is_text, has_number}
use Rattle.xf_def_forest.specs.Visit.{visits, has}
use Rattle.xf_def_forest.specs.Shape.{erased}
use Rattle.xf_def_forest.specs.Changes.{in_instances}
use Rattle.xf_def_forest.specs.Same.{renumbered_visit}
use Rattle.xf_def_forest.specs.WellFormed.{HasTrees, are_below}
use Rattle.xf_def_forest.proofs.BackLaws.{and-true}
use Rattle.xf_def_forest.proofs.OrderLaws.{seen-has, visits-different}
use Rattle.xf_def_xpath.specs.Given.{Document, document_of}
use Rattle.xf_def_xpath.specs.Asked.{found, parent_in, list_around}
use Rattle.xf_def_xpath.specs.Agree.{numbers_of, are_apart}
use Rattle.xf_def_xpath.proofs.VisitFacts.{no, or-right, some-same, found-out}
use Rattle.xf_def_model.specs.Rules.{Scope}
use Rattle.xf_law_recalculation.specs.Marks.Marks.{IsInBoth}
use Rattle.xf_law_recalculation.specs.Marks.Binds.{instances_of}
use Rattle.xf_law_recalculation.specs.Marks.Instances.{standing, SameInstances}
use Rattle.xf_law_recalculation.specs.Edit.Edits.{MarksMore}
use Rattle.xf_law_recalculation.proofs.MarksLemmas.Behind.{erased-apart}
use Rattle.xf_law_recalculation.proofs.MarksLemmas.BindInstances.{front-number, front-trees}
use Rattle.xf_law_recalculation.proofs.MarksLemmas.Standing.{visits-apart}
use Rattle.xf_law_recalculation.specs.Change.Steps.{WholeCarried}

-- ---- numbers of the instances

pub standing-apart : (forest : Forest) → HasTrees forest → are_apart (numbers_of (standing forest)) ≡ true
standing-apart forest trees = visits-different (instances_of forest) (front-trees forest trees)

pub before-apart : (f : ℕ → ℕ) (texts lists : List ℕ) (scope : Scope) (documents : List Document) (now before : Forest) → SameInstances f texts lists scope documents now before →
    are_apart (numbers_of (map (renumbered_visit f) (standing before))) ≡ true
before-apart f texts lists scope documents now before same = visits-apart f same.renumbers (standing before) (standing-apart before same.trees)

pub front-absent : (k : ℕ) (nodes : List Node) → has_number k nodes ≡ false → has k (numbers_of (visits (in_instances nodes))) ≡ false
front-absent k nodes h = seen-has k [] (in_instances nodes) ∙ front-number k nodes h

-- a test that gives the other of these is none
pub differ-of : (b : Bool) → (b ≡ true → true ≡ false) → b ≡ false
differ-of true h = h refl
differ-of false h = refl

pub less-number : (next k : ℕ) (nodes : List Node) → are_below next nodes ≡ true → has_number k nodes ≡ true → nat_lt k next ≡ true
less-number next k [] h i = no i
less-number next k (x ∷ xs) h i = by (x.number == k) refl i (less-number next k xs (and-true (nat_lt x.number next) (are_below next xs) h).1)
  where
    by : (b : Bool) → (x.number == k) ≡ b → (b || has_number k xs) ≡ true → (has_number k xs ≡ true → nat_lt k next ≡ true) → nat_lt k next ≡ true
    by true e j f = let l = (and-true (nat_lt x.number next) (are_below next xs) h).0 in grind (arith, nat_tests, e, l)
    by false e j f = f j

-- ---- marks

pub one-mark : (n : ℕ) → MarksMore [] n (n ∷ [])
one-mark n k = refl

pub more-lists : (lists more : List ℕ) (p : ℕ) → MarksMore lists p more → (k : ℕ) → has k lists ≡ true → has k more ≡ true
more-lists lists more p marks k h = marks k ∙ or-right (k == p) (has k lists) h

-- ---- document elements

pub whole_carried : WholeCarried
whole_carried f texts lists all_texts all_lists since_texts since_lists scope later documents between now before trees trees_now wider same docs since nodes = record {
  renumbers = same.renumbers;
  trees = same.trees;
  hung = same.hung;
  below = same.below;
  nodes = nodes;
  same = λ id n e free. elim (docs.each id n e) [
    | inl was ↦ kept id n e was free
    | inr m ↦ no (sym (free m.0 m.1) ∙ m.2)
  ];
  documents_stand = docs.stand;
  absent = λ id e. ap (λ k. document_of k id documents) docs.model ∙ same.absent id (docs.none id e);
}
  where
    kept : (id : List ℕ) (n : ℕ) → document_of later.model id later.given.documents ≡ Some n → document_of scope.model id scope.given.documents ≡ Some n →
        ((m : ℕ) → has m (list_around (map erased (standing now)) n) ≡ true → has m all_lists ≡ false) →
        (m : ℕ) × (document_of later.model id documents ≡ Some m) × (f m ≡ n) × IsInBoth (standing now) (map (renumbered_visit f) (standing before)) n
    kept id n e was free =
        let one = same.documents_stand id n was in
        let two = docs.stand id n e in
        let out : found n (map erased (standing between)) ≡ Some one.0 = (found-out (λ y. not (is_text y.content)) n (map erased (standing between)) one.0 (erased-apart (standing between) (standing-apart between trees)) one.1).0 in
        let out_now : found n (map erased (standing now)) ≡ Some two.0 = (found-out (λ y. not (is_text y.content)) n (map erased (standing now)) two.0 (erased-apart (standing now) (standing-apart now trees_now)) two.1).0 in
        let is : two.0 ≡ one.0 = since.stay n two.0 one.0 out_now out in
        let around : list_around (map erased (standing between)) n ≡ list_around (map erased (standing now)) n = ap parent_in (out ∙ ap Some (sym is) ∙ sym out_now) in
        let r = same.same id n was (λ m h. narrow m (free m (ap (has m) (sym around) ∙ h))) in
        (r.0, ap (λ k. document_of k id documents) docs.model ∙ r.1, r.2, (r.3.0, two.1 ∙ ap Some (is ∙ some-same (sym one.1 ∙ r.3.1)), r.3.2))
      where
        narrow : (m : ℕ) → has m all_lists ≡ false → has m lists ≡ false
        narrow m h = differ-of (has m lists) (λ i. sym (wider m i) ∙ h)

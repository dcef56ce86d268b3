-- The document element of a root whose list is not marked stays.
use Rattle.std.proofs.Common.{◌≡◌, ℕ, ◌==◌, Bool, true, false, not, ◌&&◌, ◌||◌, List, [], ◌∷◌, ◌++◌, map, Option, Some, None, option_map, refl, sym, ap, ◌∙◌}
use Rattle.std.specs.Prelude.{filter}
use Rattle.std.proofs.lemmas.Bool.{eqb-true}
use Rattle.xf_def_forest.specs.declared.content.Node.{Node}
use Rattle.xf_def_forest.specs.declared.content.Content.{Content}
use Rattle.xf_def_forest.specs.declared.content.Content.TheVariants as content
use Rattle.xf_def_forest.specs.Forest.{Forest, is_element, is_attribute, is_text, node_at}
use Rattle.xf_def_forest.specs.Visit.{Visit, visits, has, is_first, first_of, children_of}
use Rattle.xf_def_forest.specs.Shape.{erased, without_text}
use Rattle.xf_def_forest.specs.Changes.{in_instances, in_detached}
use Rattle.xf_def_forest.proofs.OrderLaws.{seen-has, visits-different}
use Rattle.xf_def_forest.proofs.RenumberLaws.{filter-through}
use Rattle.xf_def_xpath.specs.Asked.{found}
use Rattle.xf_def_xpath.specs.Agree.{numbers_of, are_apart}
use Rattle.xf_def_xpath.proofs.ForestVisits.{each-map, self-found, found-erased}
use Rattle.xf_def_xpath.proofs.VisitFacts.{no, some-same, none-some, or-left, filter-and, filter-append, found-in}
use Rattle.xf_law_recalculation.specs.Agree.Kept.{keeps, is_known}
use Rattle.xf_law_recalculation.specs.Marks.Marks.{is_unmarked, without_marked, IsInBoth}
use Rattle.xf_law_recalculation.specs.Marks.Instances.{standing}
use Rattle.xf_law_recalculation.proofs.MarksLemmas.Behind.{append-none, filter-no, front-apart, erased-apart, numbers-erased, or_later, found-append}
use Rattle.xf_law_recalculation.proofs.EditLemmas.EditLaws.{filter-each}
use Rattle.xf_law_recalculation.proofs.MarksLemmas.Standing.{visits-parts, within}
use Rattle.xf_law_recalculation.proofs.MarksLemmas.TextLists.{standing-at, text-kept}
use Rattle.xf_law_recalculation.specs.Change.Documents.{IsRootOf, DocumentStays}
use Rattle.xf_law_recalculation.proofs.ChangeLemmas.Carry.{standing-apart, differ-of}
use Rattle.xf_law_recalculation.proofs.ChangeLemmas.Fixed.{node-seen}

attribute-kept : (c : Content) → is_attribute (without_text c) ≡ is_attribute c
attribute-kept content.Root = refl
attribute-kept (content.Element name) = refl
attribute-kept (content.Attribute name text) = refl
attribute-kept (content.Text text) = refl

root-no_element : (c : Content) → c ≡ content.Root → is_element c ≡ false
root-no_element c e = ap is_element e

root-no_text : (c : Content) → c ≡ content.Root → is_text c ≡ false
root-no_text c e = ap is_text e

module _ (root : ℕ) (forest : Forest) (is : IsRootOf root forest) where
  abbrev P : List Visit
  P = standing forest

  abbrev D : List Visit
  D = visits (in_detached forest.nodes)

  abbrev is_child : Visit → Bool
  is_child y = is_first root y.above && not (is_attribute y.content)

  apart : are_apart (numbers_of (P ++ D)) ≡ true
  apart = ap (λ xs. are_apart (numbers_of xs)) (sym (visits-parts forest.nodes)) ∙ visits-different forest is.trees

  here : has root (numbers_of P) ≡ true
  here = seen-has root [] (in_instances forest.nodes) ∙ is.stands

  seen : (k : ℕ) (v : Visit) → found k P ≡ Some v → found k (visits forest.nodes) ≡ Some v
  seen k v e = ap (found k) (visits-parts forest.nodes) ∙ found-append k P D ∙ ap (λ m. or_later m (found k D)) e

  pub root-visit : (x : Visit) × (found root P ≡ Some x) × (x.content ≡ content.Root)
  root-visit =
      let x = standing-at root P here in
      by x.0 x.1 (node_at root forest.nodes) refl is.content
    where
      by : (x : Visit) → found root P ≡ Some x → (o : Option Node) → node_at root forest.nodes ≡ o → option_map (λ (z : Node). z.content) o ≡ Some content.Root → (x : Visit) × (found root P ≡ Some x) × (x.content ≡ content.Root)
      by x e None i j = none-some j
      by x e (Some z) i j = (x, e, sym (node-seen root [] forest.nodes x z (seen root x e) i) ∙ some-same j)

  -- nothing behind the instances stands in it
  first-has : (ns : List ℕ) → is_first root ns ≡ true → has root ns ≡ true
  first-has [] h = no h
  first-has (n ∷ ns) h = or-left (root == n) (has root ns) h

  not-behind : (y : Visit) → ((p : ℕ) → has p y.above ≡ true → has p (numbers_of D) ≡ true) → is_child y ≡ false
  not-behind y h = ap (λ b. b && not (is_attribute y.content)) (differ-of (is_first root y.above) (λ e. sym (h root (first-has y.above e)) ∙ front-apart P D apart root here))

  in-front : filter is_child (visits forest.nodes) ≡ filter is_child P
  in-front =
      ap (filter is_child) (visits-parts forest.nodes) ∙ filter-append is_child P D
      ∙ ap (λ l. filter is_child P ++ l) (filter-no is_child (λ y. (p : ℕ) → has p y.above ≡ true → has p (numbers_of D) ≡ true) D not-behind (within (in_detached forest.nodes)))
      ∙ append-none (filter is_child P)

  -- no text stands in it
  no-text : (y : Visit) → found y.number P ≡ Some y → is_first root y.above ≡ true → is_text y.content ≡ false
  no-text y e h = differ-of (is_text y.content) (λ t.
      let p = is.hung y.number y (seen y.number y e) t in
      let at : (root == p.0) ≡ true = ap (is_first root) (sym p.4) ∙ h in
      let one : p.1 ≡ root-visit.0 = some-same (sym p.2 ∙ ap (λ k. found k (visits forest.nodes)) (sym (eqb-true root p.0 at)) ∙ seen root root-visit.0 root-visit.1) in
      sym p.3 ∙ ap (λ (v : Visit). is_element v.content) one ∙ root-no_element root-visit.0.content root-visit.2)

  module _ (texts : List ℕ) where
    abbrev keep : Visit → Bool
    keep = keeps (is_unmarked texts)

    abbrev tested : Visit → Bool
    tested y = (keep y && is_first root y.above) && not (is_attribute y.content)

    same-test : (y : Visit) → found y.number P ≡ Some y → tested (erased y) ≡ is_child y
    same-test y e = by (is_first root y.above) refl
      where
        none : (b c : Bool) → ((b && false) && c) ≡ false
        none true c = refl
        none false c = refl

        by : (b : Bool) → is_first root y.above ≡ b → ((keep (erased y) && b) && not (is_attribute (without_text y.content))) ≡ (b && not (is_attribute y.content))
        by false h = none (keep (erased y)) (not (is_attribute (without_text y.content)))
        by true h =
            ap (λ t. ((not t || is_known (is_unmarked texts) y.above) && true) && not (is_attribute (without_text y.content))) (text-kept y.content ∙ no-text y e h)
            ∙ ap not (attribute-kept y.content)

    pub children : children_of root (visits forest.nodes) ≡ numbers_of (filter (λ y. not (is_attribute y.content)) (filter (λ y. is_first root y.above) (without_marked texts P)))
    children =
        ap numbers_of (in-front ∙ sym (filter-each (λ y. tested (erased y)) is_child P (each-map (λ y. found y.number P ≡ Some y) (λ y. tested (erased y) ≡ is_child y) P same-test (self-found P (standing-apart forest is.trees)))))
        ∙ sym (numbers-erased (filter (λ y. tested (erased y)) P))
        ∙ ap numbers_of (sym (filter-through erased tested (λ y. tested (erased y)) (λ y. refl) P))
        ∙ ap numbers_of (filter-and (λ y. not (is_attribute y.content)) (λ y. keep y && is_first root y.above) (map erased P))
        ∙ ap (λ l. numbers_of (filter (λ (y : Visit). not (is_attribute y.content)) l)) (filter-and (λ y. is_first root y.above) keep (map erased P))

pub document_stays : DocumentStays
document_stays texts lists root forest after is is_after free same =
    ap first_of
    (children root after is_after texts
    ∙ ap (λ l. numbers_of (filter (λ (y : Visit). not (is_attribute y.content)) l)) (same.listed root both free)
    ∙ sym (children root forest is texts))
  where
    solid : (x : Visit) → x.content ≡ content.Root → not (is_text (erased x).content) ≡ true
    solid x e = ap not (text-kept x.content ∙ root-no_text x.content e)

    one : (x : Visit) × (found root (standing forest) ≡ Some x) × (x.content ≡ content.Root)
    one = root-visit root forest is

    two : (x : Visit) × (found root (standing after) ≡ Some x) × (x.content ≡ content.Root)
    two = root-visit root after is_after

    seen_one : found root (map erased (standing forest)) ≡ Some (erased one.0)
    seen_one = found-erased root (standing forest) ∙ ap (option_map erased) one.1

    seen_two : found root (map erased (standing after)) ≡ Some (erased two.0)
    seen_two = found-erased root (standing after) ∙ ap (option_map erased) two.1

    both : IsInBoth (standing after) (standing forest) root
    both = (
      erased two.0,
      found-in (λ y. not (is_text y.content)) root (map erased (standing after)) (erased two.0) (erased-apart (standing after) (standing-apart after is_after.trees)) seen_two (solid two.0 two.2),
      found-in (λ y. not (is_text y.content)) root (map erased (standing forest)) (erased one.0) (erased-apart (standing forest) (standing-apart forest is.trees)) seen_one (solid one.0 one.2)
          ∙ ap Some (sym (same.stay root (erased two.0) (erased one.0) seen_two seen_one)),
    )

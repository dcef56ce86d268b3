-- The document elements of a forest whose texts stand in elements are no texts.
use Rattle.std.proofs.Common.{◌≡◌, ℕ, zero, suc, Bool, true, false, not, cond, ◌&&◌, List, [], ◌∷◌, ◌++◌, map, find, Option, Some, None, option_map, refl, sym, ap, ◌∙◌, subst}
use Rattle.std.specs.Prelude.{bytes_eq, filter, ◌==◌}
use Rattle.std.proofs.lemmas.Bool.{eqb-true}
use Rattle.xf_def_syntax.specs.declared.form.Instance.{Instance}
use Rattle.xf_def_forest.specs.declared.content.Content.{Content}
use Rattle.xf_def_forest.specs.declared.content.Content.TheVariants as content
use Rattle.xf_def_forest.specs.declared.content.Node.{Node}
use Rattle.xf_def_forest.specs.Changes.{root_of}
use Rattle.xf_def_forest.specs.Forest.{Forest, is_attribute, is_element, is_root, is_text}
use Rattle.xf_def_forest.specs.Shape.{erased, without_text}
use Rattle.xf_def_forest.specs.Visit.{Visit, children_of, first_of, is_first, still_above, visit, visits, visits_from}
use Rattle.xf_def_forest.specs.WellFormed.{HasTrees}
use Rattle.xf_def_forest.proofs.BackLaws.{and-true}
use Rattle.xf_def_forest.proofs.OrderLaws.{visits-different}
use Rattle.xf_def_xpath.specs.Asked.{found}
use Rattle.xf_def_xpath.specs.Given.{Document, document_of}
use Rattle.xf_def_xpath.proofs.ForestVisits.{Each, forest-visits, found-erased, self-found}
use Rattle.xf_def_xpath.proofs.UntextedLaws.{is_solid}
use Rattle.xf_def_xpath.proofs.VisitFacts.{found-in, no, none-some, some-same}
use Rattle.xf_def_model.specs.Pertinent.{AllOf}
use Rattle.xf_law_recalculation.specs.Agree.Settles.{AreHung, IsSolid}
use Rattle.xf_def_machine.specs.Surround.{document_in}
use Rattle.xf_engine_state.specs.Around.{document_below, documents_by, documents_from}

abbrev AllFound : List Visit → List Visit → Type 0
AllFound all = Each (λ (v : Visit). found v.number all ≡ Some v)

first-found : (p : Visit → Bool) (all ys : List Visit) (n : ℕ) → AllFound all ys → first_of (map (λ (y : Visit). y.number) (filter p ys)) ≡ Some n
    → (y : Visit) × (found n all ≡ Some y) × (p y ≡ true)
first-found p all [] n e h = none-some h
first-found p all (y ∷ ys) n e h = by (p y) refl h (first-found p all ys n e.1)
  where
    by : (b : Bool) → p y ≡ b → first_of (map (λ (z : Visit). z.number) (cond b (y ∷ filter p ys) (filter p ys))) ≡ Some n
        → (first_of (map (λ (z : Visit). z.number) (filter p ys)) ≡ Some n → (z : Visit) × (found n all ≡ Some z) × (p z ≡ true)) → (z : Visit) × (found n all ≡ Some z) × (p z ≡ true)
    by true i k later = (y, ap (λ m. found m all) (sym (some-same k)) ∙ e.0, i)
    by false i k later = later k

root-found : (all : List Visit) (place m : ℕ) (above nodes : List Node) → AllFound all (visits_from above nodes) → root_of place nodes ≡ Some m
    → (y : Visit) × (found m all ≡ Some y) × (is_root y.content ≡ true)
root-found all zero m above [] e h = none-some h
root-found all (suc place) m above [] e h = none-some h
root-found all zero m above (x ∷ xs) e h = by (is_root x.content) refl h (root-found all zero m (x ∷ still_above x.depth above) xs e.1)
  where
    by : (b : Bool) → is_root x.content ≡ b → cond b (Some x.number) (root_of zero xs) ≡ Some m
        → (root_of zero xs ≡ Some m → (y : Visit) × (found m all ≡ Some y) × (is_root y.content ≡ true)) → (y : Visit) × (found m all ≡ Some y) × (is_root y.content ≡ true)
    by true i k later = (visit above x, ap (λ n. found n all) (sym (some-same k)) ∙ e.0, i)
    by false i k later = later k
root-found all (suc place) m above (x ∷ xs) e h =
    by (is_root x.content) h (root-found all place m (x ∷ still_above x.depth above) xs e.1) (root-found all (suc place) m (x ∷ still_above x.depth above) xs e.1)
  where
    by : (b : Bool) → cond b (root_of place xs) (root_of (suc place) xs) ≡ Some m
        → (root_of place xs ≡ Some m → (y : Visit) × (found m all ≡ Some y) × (is_root y.content ≡ true))
        → (root_of (suc place) xs ≡ Some m → (y : Visit) × (found m all ≡ Some y) × (is_root y.content ≡ true)) → (y : Visit) × (found m all ≡ Some y) × (is_root y.content ≡ true)
    by true k past later = past k
    by false k past later = later k

no-element : {A : Type 0} (c : Content) → is_root c ≡ true → is_element c ≡ true → A
no-element content.Root h e = no e
no-element (content.Element name) h e = no h
no-element (content.Attribute name text) h e = no h
no-element (content.Text text) h e = no h

pub text-kept : (c : Content) → is_text (without_text c) ≡ is_text c
text-kept content.Root = refl
text-kept (content.Element name) = refl
text-kept (content.Attribute name text) = refl
text-kept (content.Text text) = refl

-- what is first of one list and of another
same-first : (m q : ℕ) (above zs : List ℕ) → is_first m above ≡ true → above ≡ q ∷ zs → m ≡ q
same-first m q [] zs h e = no h
same-first m q (n ∷ ns) zs h e = eqb-true m n h ∙ cc e

module _ (forest : Forest) (trees : HasTrees forest) (hung : AreHung (visits forest.nodes)) where
  abbrev all : List Visit
  all = visits forest.nodes

  each : AllFound all all
  each = self-found all (visits-different forest trees)

  pub solid : (n : ℕ) (y : Visit) → found n all ≡ Some y → is_text y.content ≡ false → IsSolid all n
  solid n y e plain =
      let v = forest-visits forest trees in
      (erased y, found-in is_solid n (map erased all) (erased y) v.apart (found-erased n all ∙ ap (option_map erased) e) (ap not (text-kept y.content ∙ plain)))

  -- no child of a root is a text
  child-solid : (place root n : ℕ) → root_of place forest.nodes ≡ Some root → first_of (children_of root all) ≡ Some n → IsSolid all n
  child-solid place root n at first = by (is_text y.content) refl
    where
      child : (z : Visit) × (found n all ≡ Some z) × ((is_first root z.above && not (is_attribute z.content)) ≡ true)
      child = first-found (λ z. is_first root z.above && not (is_attribute z.content)) all all n each first

      y : Visit
      y = child.0

      by : (b : Bool) → is_text y.content ≡ b → IsSolid all n
      by false plain = solid n y child.1 plain
      by true text =
          let parent = hung n y child.1 text in
          let top = root-found all place root [] forest.nodes each at in
          let same : root ≡ parent.0 = same-first root parent.0 y.above parent.1.above (and-true (is_first root y.above) (not (is_attribute y.content)) child.2).0 parent.4 in
          let one : top.0 ≡ parent.1 = some-same (sym top.1 ∙ ap (λ m. found m all) same ∙ parent.2) in
          no-element parent.1.content (ap (λ (z : Visit). is_root z.content) (sym one) ∙ top.2) parent.3

  below-solid : (place : ℕ) (o : Option ℕ) (n : ℕ) → root_of place forest.nodes ≡ o → document_below forest.nodes o ≡ Some n → IsSolid all n
  below-solid place None n at h = none-some h
  below-solid place (Some root) n at h = child-solid place root n at h

  documents-from : (place : ℕ) (is : List Instance) → AllOf (λ (d : Document). IsSolid all d.element) (documents_by is (documents_from place is forest.nodes))
  documents-from place [] = tt
  documents-from place (i ∷ is) = by (document_below forest.nodes (root_of place forest.nodes)) refl (documents-from (suc place) is)
    where
      by : (o : Option ℕ) → document_below forest.nodes (root_of place forest.nodes) ≡ o → AllOf (λ (d : Document). IsSolid all d.element) (documents_by is (documents_from (suc place) is forest.nodes))
          → AllOf (λ (d : Document). IsSolid all d.element) (document_in i o ++ documents_by is (documents_from (suc place) is forest.nodes))
      by None e later = later
      by (Some n) e later = (below-solid place (root_of place forest.nodes) n refl e, later)

  pub documents-solid : (is : List Instance) → AllOf (λ (d : Document). IsSolid all d.element) (documents_by is (documents_from 0 is forest.nodes))
  documents-solid is = documents-from 0 is

  one-solid : (p : Document → Bool) (ds : List Document) (n : ℕ) → AllOf (λ (d : Document). IsSolid all d.element) ds → option_map (λ (d : Document). d.element) (find p ds) ≡ Some n → IsSolid all n
  one-solid p [] n h e = none-some e
  one-solid p (d ∷ ds) n h e = by (p d) e (one-solid p ds n h.1)
    where
      by : (b : Bool) → option_map (λ (c : Document). c.element) (cond b (Some d) (find p ds)) ≡ Some n → (option_map (λ (c : Document). c.element) (find p ds) ≡ Some n → IsSolid all n) → IsSolid all n
      by true i later = subst (IsSolid all) (some-same i) h.0
      by false i later = later i

  pub document-solid : (is : List Instance) (model : ℕ) (id : List ℕ) (n : ℕ) → document_of model id (documents_by is (documents_from 0 is forest.nodes)) ≡ Some n → IsSolid all n
  document-solid is model [] n e = one-solid (λ (d : Document). d.model == model) (documents_by is (documents_from 0 is forest.nodes)) n (documents-solid is) e
  document-solid is model (c ∷ cs) n e = one-solid (λ (d : Document). (d.model == model) && bytes_eq d.id (c ∷ cs)) (documents_by is (documents_from 0 is forest.nodes)) n (documents-solid is) e

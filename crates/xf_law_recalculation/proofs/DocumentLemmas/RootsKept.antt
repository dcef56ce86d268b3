-- Where no list of a root is marked, none is in which a document element stands.
use Rattle.std.proofs.Common.{◌≡◌, ℕ, ◌==◌, Bool, true, false, cond, ◌&&◌, ◌||◌, List, [], ◌∷◌, ◌++◌, map, Some, refl, sym, ap, ◌∙◌, inl, inr}
use Rattle.std.specs.List.{list_any}
use Rattle.std.proofs.lemmas.Bool.{eqb-true}
use Rattle.xf_def_syntax.specs.declared.form.Instance.{Instance}
use Rattle.xf_def_forest.specs.declared.content.Node.{Node}
use Rattle.xf_def_forest.specs.declared.content.Content.{Content}
use Rattle.xf_def_forest.specs.declared.content.Content.TheVariants as content
use Rattle.xf_def_forest.specs.Forest.{Forest, is_root}
use Rattle.xf_def_forest.specs.Visit.{Visit, visit, visits_from, still_above, has}
use Rattle.xf_def_forest.specs.Shape.{erased, without_text}
use Rattle.xf_def_forest.specs.Changes.{in_instances, in_detached}
use Rattle.xf_def_xpath.specs.Given.{document_of}
use Rattle.xf_def_xpath.specs.Asked.{found, list_around}
use Rattle.xf_def_xpath.proofs.VisitFacts.{no, or-cases, some-same, none-some}
use Rattle.xf_def_model.specs.Rules.{Scope}
use Rattle.xf_law_recalculation.specs.Marks.Instances.{standing}
use Rattle.xf_law_recalculation.proofs.MarksLemmas.Standing.{parts}
use Rattle.xf_law_recalculation.proofs.MarksLemmas.TextLists.{original}
use Rattle.xf_law_recalculation.specs.Change.Documents.{IsRootOf, is_root_in}
use Rattle.xf_law_recalculation.specs.Document.Documents.{documents_at, HasDocuments}
use Rattle.xf_law_recalculation.specs.Document.Binds.{RootsKept}
use Rattle.xf_law_recalculation.proofs.DocumentLemmas.Elements.{document-at, root-in, first-below}
use Rattle.xf_law_recalculation.proofs.DocumentLemmas.Follow.{IsUnder, under, is-root, list-around}

root-erased : (c : Content) → is_root (without_text c) ≡ is_root c
root-erased content.Root = refl
root-erased (content.Element name) = refl
root-erased (content.Attribute name text) = refl
root-erased (content.Text text) = refl

-- the visit of a root is of one
root-seen : (k : ℕ) (above nodes : List Node) (v : Visit) → found k (visits_from above nodes) ≡ Some v → is_root v.content ≡ true → is_root_in k nodes ≡ true
root-seen k above [] v e r = none-some e
root-seen k above (x ∷ xs) v e r = by (x.number == k) e (root-seen k (x ∷ still_above x.depth above) xs v)
  where
    by : (b : Bool) → cond b (Some (visit above x)) (found k (visits_from (x ∷ still_above x.depth above) xs)) ≡ Some v →
        (found k (visits_from (x ∷ still_above x.depth above) xs) ≡ Some v → is_root v.content ≡ true → is_root_in k xs ≡ true) → ((b && is_root x.content) || is_root_in k xs) ≡ true
    by true i f = ap (λ c. c || is_root_in k xs) (ap (λ (w : Visit). is_root w.content) (some-same i) ∙ r)
    by false i f = f i r

any-front : (p : Node → Bool) (xs ys : List Node) → list_any p xs ≡ true → list_any p (xs ++ ys) ≡ true
any-front p [] ys h = no h
any-front p (x ∷ xs) ys h = by (p x) h (any-front p xs ys)
  where
    by : (b : Bool) → (b || list_any p xs) ≡ true → (list_any p xs ≡ true → list_any p (xs ++ ys) ≡ true) → (b || list_any p (xs ++ ys)) ≡ true
    by true i f = refl
    by false i f = f i

module _ (lists : List ℕ) (instances : List Instance) (scope : Scope) (now : Forest) (h : HasDocuments instances now) (e : scope.given.documents ≡ documents_at instances now.nodes)
    (free : (root : ℕ) → is_root_in root now.nodes ≡ true → has root lists ≡ false) where
  around-free : (id : List ℕ) (n m : ℕ) → document_of scope.model id scope.given.documents ≡ Some n → has m (list_around (map erased (standing now)) n) ≡ true → has m lists ≡ false
  around-free id n m i l = elim (or-cases (m == u.root) false (ap (has m) (sym (list-around u.root now is n (first-below u.root now is n u.first))) ∙ l)) [
    | inl a ↦ ap (λ k. has k lists) (eqb-true m u.root a) ∙ free u.root (root-in u.place u.root now.nodes u.at)
    | inr a ↦ no a
  ]
    where
      u : IsUnder instances now scope.model id n
      u = under instances now scope.model id n (sym (ap (document_of scope.model id) e ∙ document-at scope.model id now.nodes instances h.documents) ∙ i)

      is : IsRootOf u.root now
      is = is-root u.root u.place instances now h u.at

  root-free : (n : ℕ) (x : Visit) → found n (map erased (standing now)) ≡ Some x → is_root x.content ≡ true → has n lists ≡ false
  root-free n x i r =
      let v = original n (standing now) x i in
      free n (ap (is_root_in n) (parts now.nodes) ∙ any-front (λ y. (y.number == n) && is_root y.content) (in_instances now.nodes) (in_detached now.nodes)
      (root-seen n [] (in_instances now.nodes) v.0 v.1 (sym (root-erased v.0.content) ∙ ap (λ (w : Visit). is_root w.content) v.2 ∙ r)))

pub roots_kept : RootsKept
roots_kept lists instances scope now h e free = record { around = around-free lists instances scope now h e free; roots = root-free lists instances scope now h e free }

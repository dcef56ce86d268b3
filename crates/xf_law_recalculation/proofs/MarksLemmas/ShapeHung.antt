-- The texts of a shape stand in elements, as those of the forest do.
use Rattle.std.proofs.Common.{◌≡◌, ℕ, ◌^◌, Bool, true, false, not, cond, List, [], ◌∷◌, ◌++◌, map, nat_lt, Option, Some, None, option_map, refl, sym, ap, ◌∙◌}
use Rattle.std.specs.Prelude.{filter}
use Rattle.xf_def_forest.specs.declared.content.Content.{Content}
use Rattle.xf_def_forest.specs.declared.content.Content.TheVariants as content
use Rattle.xf_def_forest.specs.Forest.{Forest, is_text, is_element}
use Rattle.xf_def_forest.specs.Visit.{Visit, visits, has}
use Rattle.xf_def_forest.specs.Shape.{is_gone, is_borne, text_visit, given_visits, visits_in, filled, only_text, erased, without_text, shape}
use Rattle.xf_def_forest.specs.WellFormed.{HasTrees}
use Rattle.xf_def_xpath.specs.Asked.{found}
use Rattle.xf_def_xpath.specs.Agree.{numbers_of, AreVisits}
use Rattle.xf_def_xpath.proofs.ForestVisits.{Each, each-map, each-filter, each-found, self-found, found-erased, forest-visits}
use Rattle.xf_def_xpath.proofs.ShapeVisits.{shape-visits}
use Rattle.xf_def_model.proofs.ReadSolid.{AreHung as AllHung}
use Rattle.xf_law_recalculation.specs.Agree.Settles.{AreHung}
use Rattle.xf_law_recalculation.specs.Agree.Forests.{bare}
use Rattle.xf_law_recalculation.proofs.AgreeLemmas.HeldShape.{original, shape-erased}
use Rattle.xf_law_recalculation.proofs.MarksLemmas.TextLists.{text-kept}

element-kept : (c : Content) → is_element (without_text c) ≡ is_element c
element-kept content.Root = refl
element-kept (content.Element name) = refl
element-kept (content.Attribute name text) = refl
element-kept (content.Text text) = refl

filled-each : (P : Visit → Type 0) (g : Visit → List Visit) (ws ys : List Visit) → Each P ws → Each (λ y. P y × Each P (g y)) ys → Each P (filled g ws ys)
filled-each P g ws [] h k = h
filled-each P g ws (y ∷ ys) h k = by (is_borne y) (filled-each P g ws ys h k.1) (filled-each P g (g y) ys k.0.1 k.1)
  where
    each-append : (xs zs : List Visit) → Each P xs → Each P zs → Each P (xs ++ zs)
    each-append [] zs i j = j
    each-append (x ∷ xs) zs i j = (i.0, each-append xs zs i.1 j)

    by : (b : Bool) → Each P (filled g ws ys) → Each P (filled g (g y) ys) → Each P (cond b (y ∷ filled g ws ys) (ws ++ y ∷ filled g (g y) ys))
    by true i j = (k.0.0, i)
    by false i j = each-append ws (y ∷ filled g (g y) ys) h (k.0.0, j)

module _ (forest : Forest) (trees : HasTrees forest) (below : (k : ℕ) → has k (numbers_of (visits forest.nodes)) ≡ true → nat_lt k (2 ^ 128) ≡ true) (hung : AreHung (visits forest.nodes)) where
  abbrev V : List Visit
  V = visits forest.nodes

  abbrev A : List Visit
  A = bare forest

  va : AreVisits A
  va = forest-visits forest trees

  abbrev pub Hung : Visit → Type 0
  Hung y = is_text y.content ≡ true → (q : ℕ) × (z : Visit) × (found q A ≡ Some z) × (is_element z.content ≡ true) × (y.above ≡ q ∷ z.above)

  bare-hung : (y : Visit) → found y.number A ≡ Some y → Hung y
  bare-hung y e t =
      let x = original y.number V y e in
      let p = hung y.number x.0 x.1 (sym (text-kept x.0.content) ∙ ap (λ (q : Visit). is_text q.content) x.2 ∙ t) in
      (p.0, erased p.1, found-erased p.0 V ∙ ap (option_map erased) p.2, element-kept p.1.content ∙ p.3, ap (λ (q : Visit). q.above) (sym x.2) ∙ p.4)

  given-hung : (y : Visit) → found y.number A ≡ Some y → is_element y.content ≡ true → (ts : List (List ℕ)) → Each Hung (map (text_visit y) ts)
  given-hung y e el [] = tt
  given-hung y e el (t ∷ ts) = ((λ i. (y.number, y, e, el, refl)), given-hung y e el ts)

  in-hung : (y : Visit) → found y.number A ≡ Some y → Each Hung (visits_in (only_text V) y)
  in-hung y e = by (is_element y.content) refl
    where
      at : is_element y.content ≡ true → (o : Option (List (List ℕ))) → Each Hung (given_visits y o)
      at el None = tt
      at el (Some ts) = given-hung y e el ts

      by : (b : Bool) → is_element y.content ≡ b → Each Hung (cond b (given_visits y (only_text V y.number)) [])
      by true h = at h (only_text V y.number)
      by false h = tt

  shape-each : Each Hung (shape V)
  shape-each = filled-each Hung (visits_in (only_text V)) [] (filter (λ x. not (is_gone (only_text V) x)) A) tt
      (each-map (λ y. found y.number A ≡ Some y) (λ y. Hung y × Each Hung (visits_in (only_text V) y)) (filter (λ x. not (is_gone (only_text V) x)) A) (λ y e. (bare-hung y e, in-hung y e))
      (each-filter (λ y. found y.number A ≡ Some y) (λ x. not (is_gone (only_text V) x)) A (self-found A va.apart)))

  pub shape-texts : (k : ℕ) (y : Visit) → found k (map erased (shape V)) ≡ Some y → Hung y
  shape-texts k y e = each-found Hung k (shape V) y shape-each (ap (found k) (sym (shape-erased V)) ∙ e)

  pub all-hung : AllHung (map erased (shape V))
  all-hung = record { visits = shape-visits forest trees below; texts = λ k x e t a. absurd (none x.above (shape-texts k x e t) a) }
    where
      none : (above : List ℕ) → (q : ℕ) × (z : Visit) × (found q A ≡ Some z) × (is_element z.content ≡ true) × (above ≡ q ∷ z.above) → above ≡ [] → ⊥
      none above p a = cc (sym p.4 ∙ a)

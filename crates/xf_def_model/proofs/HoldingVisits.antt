-- The visits of data that hold other contents are those of a forest: their numbers differ, and parents stand.
use Rattle.std.proofs.Common.{◌≡◌, ℕ, ◌^◌, Bool, true, false, not, cond, ◌&&◌, is_some, List, [], ◌∷◌, ◌++◌, map, Option, Some, None, option_map, refl, sym, ap, ◌∙◌, subst}
use Rattle.std.specs.Prelude.{filter}
use Rattle.xf_def_forest.specs.declared.content.Content.{Content}
use Rattle.xf_def_forest.specs.declared.content.Content.TheVariants.{Root, Element, Attribute, Text}
use Rattle.xf_def_forest.specs.Forest.{is_text, is_element, is_attribute}
use Rattle.xf_def_forest.specs.Visit.{Visit, has, has_parent}
use Rattle.xf_def_forest.specs.Shape.{Texts, text_number, text_visit, given_visits, visits_in, is_borne, is_replaced, is_gone, filled, retexted, erased, without_text, texts_given, value_given, with_value}
use Rattle.xf_def_forest.proofs.OrderLaws.{filter-sub, map-sub, sub-different}
use Rattle.xf_def_forest.proofs.RenumberLaws.{map-cond, filter-through}
use Rattle.xf_def_xpath.specs.Asked.{found, has_list}
use Rattle.xf_def_xpath.specs.Agree.{numbers_of, are_apart, untexted, AreVisits}
use Rattle.xf_def_xpath.proofs.VisitFacts.{some-same, found-out}
use Rattle.xf_def_xpath.proofs.AxisAgree.{has-sub}
use Rattle.xf_def_xpath.proofs.ForestVisits.{each-found}
use Rattle.xf_def_xpath.proofs.ShapeVisits.{AreBelow, Waits, Hangs, filled-apart, retexted-closed, retexted-hang, retexted-untexted, not-has, limit}
use Rattle.xf_def_model.specs.Settled.{Contents, content_of, holding}
use Rattle.xf_def_model.proofs.HoldingLaws.{texts_by}

-- ---- without their texts, data that hold contents have one empty text for each content that is not empty

abbrev blank : List (List ℕ) → List (List ℕ)
blank ts = map (λ t. []) ts

abbrev pub blanks_by : Contents → Texts
blanks_by contents n = option_map blank (texts_by contents n)

module _ (contents : Contents) where
  gone-same : (x : Visit) → is_gone (blanks_by contents) (erased x) ≡ is_gone (texts_by contents) x
  gone-same x = rw (kind x.content, replaced x.above) refl
    where
      kind : (c : Content) → is_text (without_text c) ≡ is_text c
      kind Root = refl
      kind (Element name) = refl
      kind (Attribute name text) = refl
      kind (Text text) = refl

      some : (m : Option (List (List ℕ))) → is_some (option_map blank m) ≡ is_some m
      some None = refl
      some (Some ts) = refl

      replaced : (ns : List ℕ) → is_replaced (blanks_by contents) ns ≡ is_replaced (texts_by contents) ns
      replaced [] = refl
      replaced (n ∷ ns) = some (texts_by contents n)

  given-erased : (x : Visit) (m : Option (List (List ℕ))) → map erased (given_visits x m) ≡ given_visits (erased x) (option_map blank m)
  given-erased x None = refl
  given-erased x (Some ts) = by ts
    where
      by : (us : List (List ℕ)) → map erased (map (text_visit x) us) ≡ map (text_visit (erased x)) (blank us)
      by [] = refl
      by (u ∷ us) = ap (λ l. record { number = text_number x.number; above = x.number ∷ x.above; content = Text [] } ∷ l) (by us)

  element-kept : (c : Content) → is_element (without_text c) ≡ is_element c
  element-kept Root = refl
  element-kept (Element name) = refl
  element-kept (Attribute name text) = refl
  element-kept (Text text) = refl

  attribute-kept : (c : Content) → is_attribute (without_text c) ≡ is_attribute c
  attribute-kept Root = refl
  attribute-kept (Element name) = refl
  attribute-kept (Attribute name text) = refl
  attribute-kept (Text text) = refl

  in-erased : (x : Visit) → map erased (visits_in (texts_by contents) x) ≡ visits_in (blanks_by contents) (erased x)
  in-erased x =
      map-cond (map erased) (is_element x.content) (given_visits x (texts_by contents x.number)) []
      ∙ ap (λ l. cond (is_element x.content) l []) (given-erased x (texts_by contents x.number))
      ∙ ap (λ b. cond b (given_visits (erased x) (option_map blank (texts_by contents x.number))) []) (sym (element-kept x.content))

  map-joined : (xs ys : List Visit) → map erased (xs ++ ys) ≡ map erased xs ++ map erased ys
  map-joined [] ys = refl
  map-joined (x ∷ xs) ys = ap (λ l. erased x ∷ l) (map-joined xs ys)

  filled-erased_at : (ws xs : List Visit) (x : Visit) (b : Bool) → is_borne (erased x) ≡ b
      → map erased (filled (visits_in (texts_by contents)) ws xs) ≡ filled (visits_in (blanks_by contents)) (map erased ws) (map erased xs)
      → map erased (filled (visits_in (texts_by contents)) (visits_in (texts_by contents) x) xs) ≡ filled (visits_in (blanks_by contents)) (map erased (visits_in (texts_by contents) x)) (map erased xs)
      → map erased (cond b (x ∷ filled (visits_in (texts_by contents)) ws xs) (ws ++ x ∷ filled (visits_in (texts_by contents)) (visits_in (texts_by contents) x) xs))
      ≡ cond (is_borne (erased x)) (erased x ∷ filled (visits_in (blanks_by contents)) (map erased ws) (map erased xs)) (map erased ws ++ erased x ∷ filled (visits_in (blanks_by contents)) (visits_in (blanks_by contents) (erased x)) (map erased xs))
  filled-erased_at ws xs x true e p q = rw e (ap (λ l. erased x ∷ l) p)
  filled-erased_at ws xs x false e p q =
      rw e (map-joined ws (x ∷ filled (visits_in (texts_by contents)) (visits_in (texts_by contents) x) xs)
      ∙ ap (λ l. map erased ws ++ erased x ∷ l) (q ∙ ap (λ l. filled (visits_in (blanks_by contents)) l (map erased xs)) (in-erased x)))

  filled-erased : (ws xs : List Visit) → map erased (filled (visits_in (texts_by contents)) ws xs) ≡ filled (visits_in (blanks_by contents)) (map erased ws) (map erased xs)
  filled-erased ws [] = refl
  filled-erased ws (x ∷ xs) = filled-erased_at ws xs x (is_borne x) (ap (λ b. b && has_parent x.above) (attribute-kept x.content)) (filled-erased ws xs) (filled-erased (visits_in (texts_by contents) x) xs)

  value-erased : (all : List Visit) → map erased (map (with_value (content_of contents)) all) ≡ map erased all
  value-erased [] = refl
  value-erased (x ∷ xs) =
      ap (λ (c : Content). record { number = x.number; above = x.above; content = c } ∷ map erased (map (with_value (content_of contents)) xs)) (same (content_of contents x.number) x.content)
      ∙ ap (λ l. erased x ∷ l) (value-erased xs)
    where
      same : (m : Option (List ℕ)) (c : Content) → without_text (value_given m c) ≡ without_text c
      same None c = refl
      same (Some text) Root = refl
      same (Some text) (Element name) = refl
      same (Some text) (Attribute name old) = refl
      same (Some text) (Text old) = refl

  pub held-erased : (all : List Visit) → map erased (holding all contents) ≡ retexted (blanks_by contents) (map erased all)
  held-erased all =
      filled-erased [] (filter (λ x. not (is_gone (texts_by contents) x)) (map (with_value (content_of contents)) all))
      ∙ ap (filled (visits_in (blanks_by contents)) [])
      (sym (filter-through erased (λ x. not (is_gone (blanks_by contents) x)) (λ x. not (is_gone (texts_by contents) x)) (λ x. ap not (gone-same x)) (map (with_value (content_of contents)) all))
      ∙ ap (filter (λ x. not (is_gone (blanks_by contents) x))) (value-erased all))

  -- ---- at most one text waits

  one-waits : (x : Visit) (m : Option (List ℕ)) → Waits x.number (given_visits x (option_map blank (texts_given m)))
  one-waits x None = tt
  one-waits x (Some []) = tt
  one-waits x (Some (c ∷ cs)) = (refl, refl)

  held-waits : (x : Visit) → Waits x.number (visits_in (blanks_by contents) x)
  held-waits x = at (is_element x.content)
    where
      at : (b : Bool) → Waits x.number (cond b (given_visits x (blanks_by contents x.number)) [])
      at true = one-waits x (content_of contents x.number)
      at false = tt

  module _ (bare : List Visit) (v : AreVisits bare) (below : AreBelow (numbers_of bare)) where
    abbrev new : List Visit
    new = retexted (blanks_by contents) bare

    new-apart : are_apart (numbers_of new) ≡ true
    new-apart =
        let kept : List Visit = filter (λ x. not (is_gone (blanks_by contents) x)) bare in
        let part = map-sub (λ (x : Visit). x.number) (filter-sub (λ x. not (is_gone (blanks_by contents) x)) bare) in
        filled-apart (visits_in (blanks_by contents)) held-waits (2 ^ 128) [] kept tt
        (not-has (has (2 ^ 128) (numbers_of kept)) (λ h. limit (below (2 ^ 128) (has-sub (2 ^ 128) part h))))
        (sub-different part v.apart) (λ k h. below k (has-sub k part h))

    same : untexted new ≡ untexted bare
    same = retexted-untexted (blanks_by contents) bare

    new-visits : AreVisits new
    new-visits = record {
      apart = new-apart;
      closed = λ k n ns x e i. ap (λ ys. option_map (λ (z : Visit). z.above) (found n ys)) same ∙ each-found _ k new x (retexted-closed bare v (blanks_by contents)) e n ns i;
      parents = λ k n ns x z e i j.
          let hung = each-found (Hangs bare) k new x (retexted-hang bare v (blanks_by contents)) e n ns i in
          let there = (found-out (λ (q : Visit). not (is_text q.content)) n new hung.0 new-apart (ap (found n) same ∙ hung.1)).0 in
          ap (λ (q : Visit). has_list q.content) (some-same (sym j ∙ there)) ∙ hung.2;
    }

pub held-visits : (all : List Visit) → AreVisits (map erased all) → AreBelow (numbers_of (map erased all)) → (contents : Contents) → AreVisits (map erased (holding all contents))
held-visits all v below contents = subst AreVisits (sym (held-erased contents all)) (new-visits contents (map erased all) v below)

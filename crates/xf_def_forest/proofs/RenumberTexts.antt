-- Texts, shapes and new nodes go with a renumbering: new nodes take the next numbers in both forests.
use Rattle.std.proofs.Common.{◌≡◌, ℕ, suc, ◌+◌, ◌<◌, ◌==◌, not, cond, ◌&&◌, List, [], ◌∷◌, ◌++◌, map, length, Option, Some, None, is_some, refl, sym, ap, ◌∙◌, arith}
use Rattle.std.specs.Prelude.{filter}
use Rattle.std.proofs.lemmas.List.{map-append}
use Rattle.xf_def_forest.specs.declared.content.Node.{Node}
use Rattle.xf_def_forest.specs.declared.content.Content.{Content}
use Rattle.xf_def_forest.specs.declared.content.Content.TheVariants.{Text}
use Rattle.xf_def_forest.specs.Forest.{is_attribute, is_element, is_text, below, past}
use Rattle.xf_def_forest.specs.Visit.{Visit, has_parent, is_first, visits}
use Rattle.xf_def_forest.specs.Plant.{numbered_from}
use Rattle.xf_def_forest.specs.Changes.{shifted, contents_in}
use Rattle.xf_def_forest.specs.Texts.{at_depth, with_content, with_texts, with_value, valued, with_attribute_text, is_attribute_at}
use Rattle.xf_def_forest.specs.Shape.{Texts, is_replaced, is_gone, text_visit, given_visits, visits_in, is_borne, filled, retexted, has_elements, only_text, erased, shape, shape_of}
use Rattle.xf_def_forest.specs.Same.{IsRenumbering, KeepsTexts, renumbered, renumbered_visit}
use Rattle.xf_def_forest.proofs.RenumberLaws.{map-cond, any-through, filter-through, visits-renumbered, first-renumbered}
use Rattle.xf_def_forest.proofs.RenumberChanges.{below-renumbered, past-renumbered}

-- so many next numbers of one forest are those of the other; of all numbers past them nothing is asked, since those of the texts in
-- shapes go with their elements
abbrev pub Continues : (ℕ → ℕ) → ℕ → ℕ → ℕ → Type 0
Continues f next other count = (k : ℕ) → k < count → f (next + k) ≡ other + k

later : (f : ℕ → ℕ) (next other count : ℕ) → Continues f next other (suc count) → Continues f (suc next) (suc other) count
later f next other count h k less =
    let one : suc next + k ≡ next + suc k = omega arith in
    let two : other + suc k ≡ suc other + k = omega arith in
    let more : suc k < suc count = omega (arith, less) in
    ap f one ∙ h (suc k) more ∙ two

pub numbered-renumbered : (f : ℕ → ℕ) (next other : ℕ) (contents : List (ℕ × Content)) → Continues f next other (length contents) → map (renumbered f) (numbered_from next contents) ≡ numbered_from other contents
numbered-renumbered f next other [] h = refl
numbered-renumbered f next other (c ∷ cs) h =
    let less : 0 < suc (length cs) = omega arith in
    let first : f next ≡ other = ap f (plain next) ∙ h 0 less ∙ sym (plain other) in
    ap (λ n. record { number = n; depth = c.0; content = c.1 } ∷ map (renumbered f) (numbered_from (suc next) cs)) first
    ∙ ap (λ l. record { number = other; depth = c.0; content = c.1 } ∷ l) (numbered-renumbered f (suc next) (suc other) cs (later f next other (length cs) h))
  where
    plain : (n : ℕ) → n ≡ n + 0
    plain n = omega arith

abbrev entry : Node → ℕ × Content
entry x = (x.depth, x.content)

module _ (f : ℕ → ℕ) (same : IsRenumbering f) where
  -- a copy has the contents of what it copies, whatever its numbers
  pub contents-renumbered : (tree : List Node) → contents_in (map (renumbered f) tree) ≡ contents_in tree
  contents-renumbered [] = refl
  contents-renumbered (x ∷ xs) = by x.depth (x ∷ xs)
    where
      by : (d : ℕ) (ys : List Node) → map entry (map (shifted d 0) (map (renumbered f) ys)) ≡ map entry (map (shifted d 0) ys)
      by d [] = refl
      by d (y ∷ ys) = ap (λ l. entry (shifted d 0 y) ∷ l) (by d ys)

  -- ---- texts of a node

  attributes-renumbered : (xs : List Node) → filter (λ y. is_attribute y.content) (map (renumbered f) xs) ≡ map (renumbered f) (filter (λ y. is_attribute y.content) xs)
  attributes-renumbered xs = filter-through (renumbered f) (λ y. is_attribute y.content) (λ y. is_attribute y.content) (λ y. refl) xs

  placed-texts : (d : ℕ) (xs : List Node) → map (at_depth d) (map (renumbered f) xs) ≡ map (renumbered f) (map (at_depth d) xs)
  placed-texts d [] = refl
  placed-texts d (x ∷ xs) = ap (λ l. at_depth d (renumbered f x) ∷ l) (placed-texts d xs)

  content-renumbered : (d : ℕ) (texts xs : List Node) → with_content d (map (renumbered f) texts) (map (renumbered f) xs) ≡ map (renumbered f) (with_content d texts xs)
  content-renumbered d texts xs =
      let zs = filter (λ (y : Node). is_attribute y.content) (below d xs) in
      let ts = map (at_depth (suc d)) texts in
      ap (λ l. filter (λ (y : Node). is_attribute y.content) l ++ map (at_depth (suc d)) (map (renumbered f) texts) ++ past d (map (renumbered f) xs)) (below-renumbered f same d xs)
      ∙ ap (λ l. l ++ map (at_depth (suc d)) (map (renumbered f) texts) ++ past d (map (renumbered f) xs)) (attributes-renumbered (below d xs))
      ∙ ap (λ l. map (renumbered f) zs ++ l ++ past d (map (renumbered f) xs)) (placed-texts (suc d) texts)
      ∙ ap (λ l. map (renumbered f) zs ++ map (renumbered f) ts ++ l) (past-renumbered f same d xs)
      ∙ ap (λ l. l ++ map (renumbered f) (past d xs)) (sym (map-append (renumbered f) zs ts))
      ∙ sym (map-append (renumbered f) (zs ++ ts) (past d xs))

  pub with_texts-renumbered : (n : ℕ) (texts xs : List Node) → with_texts (f n) (map (renumbered f) texts) (map (renumbered f) xs) ≡ map (renumbered f) (with_texts n texts xs)
  with_texts-renumbered n texts [] = refl
  with_texts-renumbered n texts (x ∷ xs) =
      ap (λ b. cond b (renumbered f x ∷ with_content x.depth (map (renumbered f) texts) (map (renumbered f) xs)) (renumbered f x ∷ with_texts (f n) (map (renumbered f) texts) (map (renumbered f) xs))) (same x.number n)
      ∙ ap (λ l. cond (x.number == n) (renumbered f x ∷ l) (renumbered f x ∷ with_texts (f n) (map (renumbered f) texts) (map (renumbered f) xs))) (content-renumbered x.depth texts xs)
      ∙ ap (λ l. cond (x.number == n) (map (renumbered f) (x ∷ with_content x.depth texts xs)) (renumbered f x ∷ l)) (with_texts-renumbered n texts xs)
      ∙ sym (map-cond (map (renumbered f)) (x.number == n) (x ∷ with_content x.depth texts xs) (x ∷ with_texts n texts xs))

  valued-renumbered : (n : ℕ) (text : List ℕ) (x : Node) → valued (f n) text (renumbered f x) ≡ renumbered f (valued n text x)
  valued-renumbered n text x =
      ap (λ b. cond b (record { number = f x.number; depth = x.depth; content = with_value text x.content }) (renumbered f x)) (same x.number n)
      ∙ sym (map-cond (renumbered f) (x.number == n) (record x { content = with_value text x.content }) x)

  pub attribute_text-renumbered : (n : ℕ) (text : List ℕ) (xs : List Node) → with_attribute_text (f n) text (map (renumbered f) xs) ≡ map (renumbered f) (with_attribute_text n text xs)
  attribute_text-renumbered n text [] = refl
  attribute_text-renumbered n text (x ∷ xs) =
      ap (λ y. y ∷ with_attribute_text (f n) text (map (renumbered f) xs)) (valued-renumbered n text x)
      ∙ ap (λ l. renumbered f (valued n text x) ∷ l) (attribute_text-renumbered n text xs)

  pub is_attribute_at-renumbered : (n : ℕ) (xs : List Node) → is_attribute_at (f n) (map (renumbered f) xs) ≡ is_attribute_at n xs
  is_attribute_at-renumbered n xs =
      any-through (renumbered f) (λ x. (x.number == f n) && is_attribute x.content) (λ x. (x.number == n) && is_attribute x.content) (λ x. ap (λ b. b && is_attribute x.content) (same x.number n)) xs

  -- ---- shapes

  module _ (texts : KeepsTexts f) where
    has_elements-renumbered : (all : List Visit) (n : ℕ) → has_elements (map (renumbered_visit f) all) (f n) ≡ has_elements all n
    has_elements-renumbered all n =
        any-through (renumbered_visit f) (λ y. is_element y.content && is_first (f n) y.above) (λ y. is_element y.content && is_first n y.above) (λ y. ap (λ b. is_element y.content && b) (first-renumbered f same n y.above)) all

    erased-renumbered : (all : List Visit) → map erased (map (renumbered_visit f) all) ≡ map (renumbered_visit f) (map erased all)
    erased-renumbered [] = refl
    erased-renumbered (x ∷ xs) = ap (λ l. erased (renumbered_visit f x) ∷ l) (erased-renumbered xs)

    given-renumbered : (x : Visit) (m : Option (List (List ℕ))) → given_visits (renumbered_visit f x) m ≡ map (renumbered_visit f) (given_visits x m)
    given-renumbered x None = refl
    given-renumbered x (Some ts) = by ts
      where
        by : (us : List (List ℕ)) → map (text_visit (renumbered_visit f x)) us ≡ map (renumbered_visit f) (map (text_visit x) us)
        by [] = refl
        by (u ∷ us) = ap (λ n. record { number = n; above = f x.number ∷ map f x.above; content = Text u } ∷ map (text_visit (renumbered_visit f x)) us) (sym (texts x.number))
            ∙ ap (λ l. renumbered_visit f (text_visit x u) ∷ l) (by us)

    replaced-renumbered : (t u : Texts) → ((n : ℕ) → t (f n) ≡ u n) → (above : List ℕ) → is_replaced t (map f above) ≡ is_replaced u above
    replaced-renumbered t u h [] = refl
    replaced-renumbered t u h (n ∷ ns) = ap is_some (h n)

    visits_in-renumbered : (t u : Texts) → ((n : ℕ) → t (f n) ≡ u n) → (x : Visit) → visits_in t (renumbered_visit f x) ≡ map (renumbered_visit f) (visits_in u x)
    visits_in-renumbered t u h x =
        ap (λ m. cond (is_element x.content) (given_visits (renumbered_visit f x) m) []) (h x.number)
        ∙ ap (λ l. cond (is_element x.content) l []) (given-renumbered x (u x.number))
        ∙ sym (map-cond (map (renumbered_visit f)) (is_element x.content) (given_visits x (u x.number)) [])

    parent-renumbered : (above : List ℕ) → has_parent (map f above) ≡ has_parent above
    parent-renumbered [] = refl
    parent-renumbered (n ∷ ns) = refl

    borne-renumbered : (x : Visit) → is_borne (renumbered_visit f x) ≡ is_borne x
    borne-renumbered x = ap (λ b. is_attribute x.content && b) (parent-renumbered x.above)

    filled-renumbered : (given other : Visit → List Visit) → ((x : Visit) → given (renumbered_visit f x) ≡ map (renumbered_visit f) (other x)) → (waiting all : List Visit)
        → filled given (map (renumbered_visit f) waiting) (map (renumbered_visit f) all) ≡ map (renumbered_visit f) (filled other waiting all)
    filled-renumbered given other h waiting [] = refl
    filled-renumbered given other h waiting (x ∷ xs) =
        ap (λ b. cond b (renumbered_visit f x ∷ filled given (map (renumbered_visit f) waiting) (map (renumbered_visit f) xs)) (map (renumbered_visit f) waiting ++ renumbered_visit f x ∷ filled given (given (renumbered_visit f x)) (map (renumbered_visit f) xs))) (borne-renumbered x)
        ∙ ap (λ l. cond (is_borne x) (renumbered_visit f x ∷ l) (map (renumbered_visit f) waiting ++ renumbered_visit f x ∷ filled given (given (renumbered_visit f x)) (map (renumbered_visit f) xs))) (filled-renumbered given other h waiting xs)
        ∙ ap (λ l. cond (is_borne x) (map (renumbered_visit f) (x ∷ filled other waiting xs)) (map (renumbered_visit f) waiting ++ renumbered_visit f x ∷ filled given l (map (renumbered_visit f) xs))) (h x)
        ∙ ap (λ l. cond (is_borne x) (map (renumbered_visit f) (x ∷ filled other waiting xs)) (map (renumbered_visit f) waiting ++ renumbered_visit f x ∷ l)) (filled-renumbered given other h (other x) xs)
        ∙ ap (cond (is_borne x) (map (renumbered_visit f) (x ∷ filled other waiting xs))) (sym (map-append (renumbered_visit f) waiting (x ∷ filled other (other x) xs)))
        ∙ sym (map-cond (map (renumbered_visit f)) (is_borne x) (x ∷ filled other waiting xs) (waiting ++ x ∷ filled other (other x) xs))

    pub retexted-renumbered : (t u : Texts) → ((n : ℕ) → t (f n) ≡ u n) → (all : List Visit) → retexted t (map (renumbered_visit f) all) ≡ map (renumbered_visit f) (retexted u all)
    retexted-renumbered t u h all =
        ap (filled (visits_in t) [])
        (filter-through (renumbered_visit f) (λ x. not (is_gone t x)) (λ x. not (is_gone u x)) (λ x. ap (λ b. not (is_text x.content && b)) (replaced-renumbered t u h x.above)) all)
        ∙ filled-renumbered (visits_in t) (visits_in u) (visits_in-renumbered t u h) [] (filter (λ x. not (is_gone u x)) all)

    pub shape-renumbered : (all : List Visit) → shape (map (renumbered_visit f) all) ≡ map (renumbered_visit f) (shape all)
    shape-renumbered all =
        ap (retexted (only_text (map (renumbered_visit f) all))) (erased-renumbered all)
        ∙ retexted-renumbered (only_text (map (renumbered_visit f) all)) (only_text all) (λ n. ap (λ b. cond b None (Some ([] ∷ []))) (has_elements-renumbered all n)) (map erased all)

    pub shape_of-renumbered : (nodes : List Node) → shape_of (map (renumbered f) nodes) ≡ map (renumbered_visit f) (shape_of nodes)
    shape_of-renumbered nodes = ap shape (visits-renumbered f same nodes) ∙ shape-renumbered (visits nodes)

-- Whether a text stands at a node is told by the instances alone, and under other numbers.
use Rattle.std.proofs.Common.{◌≡◌, ℕ, Bool, true, false, not, ◌&&◌, List, [], ◌∷◌, ◌++◌, map, Option, Some, None, option_map, refl, sym, ap, ◌∙◌, inl, inr, ◌||◌, arith}
use Rattle.std.specs.Prelude.{◌⊎◌, ◌≤◌}
use Rattle.xf_def_forest.specs.Changes.{in_detached}
use Rattle.xf_def_forest.specs.Forest.{Forest, is_text, is_element, own_text, kind_at}
use Rattle.xf_def_forest.specs.Needs.{IsSettable}
use Rattle.xf_def_forest.specs.Same.{IsRenumbering, renumbered_visit}
use Rattle.xf_def_forest.specs.Settle.{has_text}
use Rattle.xf_def_forest.specs.Shape.{erased}
use Rattle.xf_def_forest.specs.Visit.{Visit, visits, has, is_first}
use Rattle.xf_def_forest.specs.WellFormed.{HasTrees}
use Rattle.xf_def_forest.specs.declared.content.Kind.TheVariants as kind
use Rattle.xf_def_forest.proofs.OrderLaws.{visits-different}
use Rattle.xf_def_forest.proofs.RenumberLaws.{map-map, filter-through, first-renumbered}
use Rattle.xf_law_forests.proofs.RollbackLemmas.Trees.{times}
use Rattle.xf_law_forests.proofs.RollbackLemmas.TreeFacts.{at-times}
use Rattle.xf_law_forests.proofs.RollbackLemmas.KeepingTrees.{Stands, stands, kind-any, element-test, attribute-test}
use Rattle.xf_def_forest.specs.Forest.{is_attribute}
use Rattle.xf_def_xpath.specs.Asked.{found}
use Rattle.xf_def_xpath.specs.Agree.{numbers_of, are_apart}
use Rattle.xf_def_xpath.proofs.RenumberLaws.{found-renumbered}
use Rattle.xf_def_xpath.proofs.VisitFacts.{filter-append, present, found-out}
use Rattle.xf_law_recalculation.specs.Agree.Settles.{IsSolid}
use Rattle.xf_law_forests.proofs.SettleLemmas.KindLemmas.{and-none}
use Rattle.xf_law_forests.proofs.SettleLemmas.WrittenLaws.{alone, alone-trees, once, settable-fits, at-node}
use Rattle.xf_law_recalculation.specs.Marks.Instances.{standing}
use Rattle.xf_law_recalculation.proofs.MarksLemmas.Behind.{append-none, front-apart, front-numbers, filter-no, or_later, found-append, erased-apart}
use Rattle.xf_law_recalculation.proofs.MarksLemmas.Standing.{visits-parts, within}
use Rattle.xf_law_recalculation.proofs.MarksLemmas.TextLists.{original}
use Rattle.xf_law_recalculation.proofs.SinceLemmas.Says.{held_texts, own_texts, told_by, told, text-told, says, text-said}

-- ---- of a node whose text can be set

module _ (forest : Forest) (n : ℕ) (trees : HasTrees forest) (able : IsSettable n forest) where
  pub stands-in : Stands (alone forest)
  stands-in = stands (alone forest) (alone-trees forest trees)

  pub stands-once : times n stands-in.trees ≡ 1
  stands-once = by able.kind
    where
      exactly : 1 ≤ times n stands-in.trees → times n stands-in.trees ≡ 1
      exactly h = let o = once forest stands-in n in omega (arith, h, o)

      by : (kind_at n forest.nodes ≡ Some kind.Attribute) ⊎ (kind_at n forest.nodes ≡ Some kind.Element) → times n stands-in.trees ≡ 1
      by (inl h) = exactly (at-times is_attribute n stands-in.trees (at-node forest stands-in is_attribute n (kind-any kind.Attribute is_attribute attribute-test n forest.nodes h)))
      by (inr h) = exactly (at-times is_element n stands-in.trees (at-node forest stands-in is_element n (kind-any kind.Element is_element element-test n forest.nodes h)))

  pub has-told : (text : List ℕ) → has_text n text forest.nodes ≡ told n text (visits forest.nodes)
  has-told text =
      ap (has_text n text) stands-in.nodes ∙ text-told n text stands-in.trees stands-once (settable-fits forest stands-in n able) ∙ ap (λ l. told n text (visits l)) (sym stands-in.nodes)

  pub has-said : (text : List ℕ) → has_text n text forest.nodes ≡ says n text stands-in.trees
  has-said text = ap (has_text n text) stands-in.nodes ∙ text-said n text stands-in.trees stands-once (settable-fits forest stands-in n able)

-- ---- the instances

first-has : (k : ℕ) (ns : List ℕ) → is_first k ns ≡ true → has k ns ≡ true
first-has k [] h = h
first-has k (m ∷ ms) h = ap (λ b. b || has k ms) h

pub told-parts : (forest : Forest) (n : ℕ) (text : List ℕ) → HasTrees forest → IsSolid (standing forest) n → told n text (visits forest.nodes) ≡ told n text (standing forest)
told-parts forest n text trees s =
    ap (told n text) (visits-parts forest.nodes)
    ∙ ap (λ o. told_by text o (own_texts (held_texts n (P ++ D)))) (found-append n P D ∙ ap (λ o. or_later o (found n D)) at.1 ∙ sym at.1)
    ∙ ap (λ l. told_by text (found n P) (own_texts l)) (filter-append (λ (y : Visit). is_text y.content && is_first n y.above) P D ∙ ap (λ l. held_texts n P ++ l) none_behind ∙ append-none (held_texts n P))
  where
    P : List Visit
    P = standing forest

    D : List Visit
    D = visits (in_detached forest.nodes)

    apart : are_apart (numbers_of (P ++ D)) ≡ true
    apart = ap (λ xs. are_apart (numbers_of xs)) (sym (visits-parts forest.nodes)) ∙ visits-different forest trees

    at : (x : Visit) × (found n P ≡ Some x)
    at =
        let o = original n P s.0 (found-out (λ y. not (is_text y.content)) n (map erased P) s.0 (erased-apart P (front-numbers P D apart)) s.1).0 in
        (o.0, o.1)

    absent : has n (numbers_of D) ≡ false
    absent = front-apart P D apart n (present n P at.0 at.1)

    none_behind : held_texts n D ≡ []
    none_behind = filter-no (λ (y : Visit). is_text y.content && is_first n y.above) (λ y. (p : ℕ) → has p y.above ≡ true → has p (numbers_of D) ≡ true) D
        (λ y h. ap (λ b. is_text y.content && b) (off (is_first n y.above) (λ i. sym absent ∙ h n (first-has n y.above i))) ∙ and-none (is_text y.content)) (within (in_detached forest.nodes))
      where
        off : (b : Bool) → (b ≡ true → false ≡ true) → b ≡ false
        off true h = sym (h refl)
        off false h = refl

-- ---- other numbers

pub told-renumbered : (f : ℕ → ℕ) → IsRenumbering f → (n : ℕ) (text : List ℕ) (all : List Visit) → f n ≡ n → told n text (map (renumbered_visit f) all) ≡ told n text all
told-renumbered f same n text all stays =
    ap (λ o. told_by text o (own_texts (held_texts n (map (renumbered_visit f) all)))) (ap (λ k. found k (map (renumbered_visit f) all)) (sym stays) ∙ found-renumbered f same n all)
    ∙ by (found n all) (own_texts (held_texts n (map (renumbered_visit f) all)))
    ∙ ap (told_by text (found n all))
    (ap own_texts (filter-through (renumbered_visit f) (λ (y : Visit). is_text y.content && is_first n y.above) (λ (y : Visit). is_text y.content && is_first n y.above)
    (λ y. ap (λ b. is_text y.content && b) (ap (λ k. is_first k (map f y.above)) (sym stays) ∙ first-renumbered f same n y.above)) all)
    ∙ map-map (λ (y : Visit). own_text y.content) (renumbered_visit f) (held_texts n all))
  where
    by : (o : Option Visit) (us : List (List ℕ)) → told_by text (option_map (renumbered_visit f) o) us ≡ told_by text o us
    by None us = refl
    by (Some y) us = refl

-- ---- the same node with the same texts

pub told-same : (n : ℕ) (text : List ℕ) (xs ys : List Visit) → found n xs ≡ found n ys → held_texts n xs ≡ held_texts n ys → told n text xs ≡ told n text ys
told-same n text xs ys own held = ap (λ o. told_by text o (own_texts (held_texts n xs))) own ∙ ap (λ l. told_by text (found n ys) (own_texts l)) held

-- What holds a node holds its parent: both stand in one tree.
use Rattle.std.proofs.Common.{◌≡◌, ℕ, not, List, [], ◌∷◌, map, Option, Some, None, option_map, refl, sym, ap, ◌∙◌}
use Rattle.std.specs.Prelude.{option_and_then, slice_get}
use Rattle.xf_def_syntax.specs.declared.form.Instance.{Instance}
use Rattle.xf_def_forest.specs.Forest.{is_text}
use Rattle.xf_def_forest.specs.Order.{instance_of}
use Rattle.xf_def_forest.specs.Shape.{erased}
use Rattle.xf_def_forest.specs.Visit.{Visit, above_in, ancestors_of, first_of, last_of, parent_of, top_of, visits}
use Rattle.xf_def_xpath.specs.Agree.{AreVisits, untexted}
use Rattle.xf_def_xpath.specs.Asked.{found}
use Rattle.xf_def_xpath.proofs.ForestVisits.{forest-visits, found-erased}
use Rattle.xf_def_xpath.proofs.VisitFacts.{found-out, none-some, some-same}
use Rattle.xf_law_rebuild.specs.Trees.{HeldWithParent}

above-erased : (m : Option Visit) → above_in (option_map erased m) ≡ above_in m
above-erased None = refl
above-erased (Some x) = refl

ancestors-erased : (n : ℕ) (all : List Visit) → ancestors_of n (map erased all) ≡ ancestors_of n all
ancestors-erased n all = ap above_in (found-erased n all) ∙ above-erased (found n all)

-- above a node stand its parent and what stands above that
module _ (all : List Visit) (are : AreVisits (map erased all)) where
  abbrev bare : List Visit
  bare = map erased all

  above-parent : (n parent : ℕ) (ns : List ℕ) → ancestors_of n bare ≡ parent ∷ ns → ancestors_of parent bare ≡ ns
  above-parent n parent ns e = by (found n bare) refl e
    where
      of : (m : Option Visit) → found parent (untexted bare) ≡ m → option_map (λ (z : Visit). z.above) m ≡ Some ns → ancestors_of parent bare ≡ ns
      of None i j = none-some j
      of (Some z) i j = ap above_in (found-out (λ (y : Visit). not (is_text y.content)) parent bare z are.apart i).0 ∙ some-same j

      by : (m : Option Visit) → found n bare ≡ m → above_in m ≡ parent ∷ ns → ancestors_of parent bare ≡ ns
      by None i j = cc j
      by (Some x) i j = of (found parent (untexted bare)) refl (are.closed n parent ns x i j)

  pub one-top : (n parent : ℕ) → parent_of n all ≡ Some parent → top_of n all ≡ top_of parent all
  one-top n parent e = by (ancestors_of n all) refl e
    where
      by : (ms : List ℕ) → ancestors_of n all ≡ ms → first_of ms ≡ Some parent → top_of n all ≡ top_of parent all
      by [] i j = none-some j
      by (m ∷ ms) i j =
          let is : ancestors_of n all ≡ parent ∷ ms = i ∙ ap (λ p. p ∷ ms) (some-same j) in
          ap (last_of n) is ∙ ap (last_of parent) (sym (sym (ancestors-erased parent all) ∙ above-parent n parent ms (ancestors-erased n all ∙ is)))

pub held_with_parent : HeldWithParent
held_with_parent instances n parent forest trees e =
    ap (λ top. option_and_then (λ place. option_map (λ (i : Instance). i.model) (slice_get instances place)) (instance_of top forest.nodes)) (one-top (visits forest.nodes) (forest-visits forest trees) n parent e)

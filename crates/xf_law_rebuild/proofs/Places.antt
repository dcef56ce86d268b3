-- The roots of the instances keep their places whatever trees come and go.
use Rattle.std.proofs.Common.{◌≡◌, ℕ, ◌+◌, ◌-◌, true, false, not, ◌||◌, List, [], ◌∷◌, ◌++◌, map, length, Option, Some, option_map, refl, sym, ap, ◌∙◌, subst, inl, inr, arith}
use Rattle.std.specs.Prelude.{◌⊎◌, slice_get}
use Rattle.std.specs.List.{list_any}
use Rattle.std.proofs.lemmas.Bool.Decides.{nat_tests}
use Rattle.xf_def_forest.specs.declared.content.Content.{Content}
use Rattle.xf_def_forest.specs.declared.content.Content.TheVariants as content
use Rattle.xf_def_forest.specs.declared.content.Node.{Node}
use Rattle.xf_def_forest.specs.declared.content.Kind.TheVariants as kind
use Rattle.xf_def_forest.specs.Changes.{contents_in, place_of, shifted}
use Rattle.xf_def_forest.specs.Forest.{Forest, content_at, is_root, kind_at, kind_of, node_at, tree_of}
use Rattle.xf_def_forest.specs.Needs.{MayStand, in_element, in_root, as_attribute}
use Rattle.xf_def_forest.specs.Plant.{numbered_from}
use Rattle.xf_def_forest.specs.Visit.{visits}
use Rattle.xf_def_forest.specs.WellFormed.{HasTrees}
use Rattle.xf_def_forest.proofs.BackLaws.{and-true, not-true}
use Rattle.xf_def_xpath.proofs.VisitFacts.{some-same}
use Rattle.xf_law_forests.specs.Rollback.Made.{IsGrowth, begins_at_top}
use Rattle.xf_law_forests.proofs.RollbackLemmas.MadeLemmas.{none-detached}
use Rattle.xf_law_forests.proofs.RollbackLemmas.Outcomes.{attached-placed, unless-ok}
use Rattle.xf_law_forests.specs.Root.Roots.{IsNoRoot, RootsStay}
use Rattle.xf_law_forests.proofs.RootLemmas.Parts.{tree-rootless}
use Rattle.xf_law_forests.proofs.RootLemmas.Shown.{rootless}
use Rattle.xf_law_forests.proofs.RootLemmas.Stays.{root_at_place, roots_stay_detached, roots_stay_dropped, roots_stay_grown, roots_stay_placed}
use Rattle.xf_law_rebuild.specs.Places.{AloneDropped, RootsAttached, RootsCopied, RootsDetached, RootsDropped, RootsPlanted, SameRoots}

pub same-places : (nodes after : List Node) → RootsStay nodes after → SameRoots nodes after
same-places nodes after stay place = root_at_place place after ∙ ap (λ ns. slice_get ns place) stay.same ∙ sym (root_at_place place nodes)

-- ---- new trees

pub roots_planted : RootsPlanted
roots_planted l contents m forest after growth e =
    subst (λ (w : ℕ × Forest). SameRoots forest.nodes w.1.nodes) (unless-ok _ (forest.next, record { nodes = forest.nodes ++ numbered_from forest.next contents; next = forest.next + length contents }) (m, after) e)
    (same-places forest.nodes (forest.nodes ++ numbered_from forest.next contents) (roots_stay_grown forest.next contents forest.nodes growth))

-- the contents of a tree without a root grow
contents-top : (xs : List Node) → begins_at_top (contents_in xs) ≡ true
contents-top [] = refl
contents-top (x ∷ xs) = let e : 0 + (x.depth - x.depth) ≡ 0 = omega arith in grind (arith, nat_tests, e)

contents-rootless : (xs : List Node) → rootless xs ≡ true → list_any (λ p. is_root p.1) (contents_in xs) ≡ false
contents-rootless [] h = refl
contents-rootless (x ∷ xs) h = moved x.depth (x ∷ xs) h
  where
    moved : (from : ℕ) (ys : List Node) → rootless ys ≡ true → list_any (λ (p : ℕ × Content). is_root p.1) (map (λ (y : Node). (y.depth, y.content)) (map (shifted from 0) ys)) ≡ false
    moved from [] i = refl
    moved from (y ∷ ys) i =
        let ps = and-true (not (is_root y.content)) (rootless ys) i in
        ap (λ b. b || list_any (λ (p : ℕ × Content). is_root p.1) (map (λ (z : Node). (z.depth, z.content)) (map (shifted from 0) ys))) (not-true (is_root y.content) ps.0) ∙ moved from ys ps.1

-- no node with this number is a root
no-root : (n : ℕ) (forest : Forest) → IsNoRoot n forest → (z : Node) → node_at n forest.nodes ≡ Some z → is_root z.content ≡ false
no-root n forest h z e = elim h [ inl i ↦ of (inl (some-same (told i))) | inr i ↦ of (inr (some-same (told i))) ]
  where
    told : {k : Option _} → kind_at n forest.nodes ≡ k → Some (kind_of z.content) ≡ k
    told i = sym (ap (λ o. option_map kind_of (option_map (λ (y : Node). y.content) o)) e) ∙ i

    of : (kind_of z.content ≡ kind.Element) ⊎ (kind_of z.content ≡ kind.Attribute) → is_root z.content ≡ false
    of i = by z.content i
      where
        by : (c : Content) → (kind_of c ≡ kind.Element) ⊎ (kind_of c ≡ kind.Attribute) → is_root c ≡ false
        by content.Root (inl j) = cc j
        by content.Root (inr j) = cc j
        by (content.Element name) j = refl
        by (content.Attribute name text) j = refl
        by (content.Text text) j = refl

pub again-growth : (n : ℕ) (forest : Forest) → HasTrees forest → IsNoRoot n forest → IsGrowth (contents_in (tree_of n forest.nodes))
again-growth n forest trees kinds = record {
  top = contents-top (tree_of n forest.nodes);
  rootless = contents-rootless (tree_of n forest.nodes) (tree-rootless n forest.nodes trees.tops (no-root n forest kinds));
}

pub roots_copied : RootsCopied
roots_copied l n m forest after trees kinds e =
    let contents = contents_in (tree_of n forest.nodes) in
    subst (λ (w : ℕ × Forest). SameRoots forest.nodes w.1.nodes) (unless-ok _ (forest.next, record { nodes = forest.nodes ++ numbered_from forest.next contents; next = forest.next + length (tree_of n forest.nodes) }) (m, after) e)
    (same-places forest.nodes (forest.nodes ++ numbered_from forest.next contents) (roots_stay_grown forest.next contents forest.nodes (again-growth n forest trees kinds)))

-- ---- trees that move and go

pub roots_detached : RootsDetached
roots_detached n forest trees kinds = same-places forest.nodes _ (roots_stay_detached n forest trees kinds)

pub stand-kinds : (n parent place : ℕ) (forest : Forest) → MayStand n parent place forest → IsNoRoot n forest
stand-kinds n parent place forest (in_element e i j) = inl e
stand-kinds n parent place forest (in_root e i j k) = inl e
stand-kinds n parent place forest (as_attribute e i j) = inr e

pub roots_attached : RootsAttached
roots_attached l n parent place forest after trees may e =
    let at = place_of parent place (visits forest.nodes) (content_at n forest.nodes) in
    subst (λ (f : Forest). SameRoots forest.nodes f.nodes) (attached-placed l n parent place forest after e)
    (same-places forest.nodes _ (roots_stay_placed n parent at forest trees (stand-kinds n parent place forest may.stands)))

pub roots_dropped : RootsDropped
roots_dropped nodes ahead = same-places nodes _ (roots_stay_dropped nodes ahead)

pub alone_dropped : AloneDropped
alone_dropped nodes = none-detached nodes

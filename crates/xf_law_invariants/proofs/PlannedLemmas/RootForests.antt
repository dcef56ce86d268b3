-- Roots with at most one child, and the children of roots, through changes of forests.
use Rattle.std.proofs.Common.{◌≡◌, ℕ, ◌+◌, ◌==◌, Bool, true, false, ◌&&◌, ◌||◌, List, [], ◌++◌, length, Some, refl, sym, ap, ◌∙◌, subst, inl, inr}
use Rattle.std.specs.Prelude.{◌⊎◌}
use Rattle.std.proofs.lemmas.Bool.{cases_Bool}
use Rattle.xf_def_forest.specs.declared.content.Content.{Content}
use Rattle.xf_def_forest.specs.declared.content.Kind.TheVariants as kind
use Rattle.xf_def_forest.specs.Changes.{detached, placed}
use Rattle.xf_def_forest.specs.Forest.{Forest, has_number, is_attribute, is_element, is_root, kind_at}
use Rattle.xf_def_forest.specs.Needs.{IsSettable, MayPlace}
use Rattle.xf_def_forest.specs.Plant.{numbered_from}
use Rattle.xf_def_forest.specs.Settle.{with_numbered_text}
use Rattle.xf_def_forest.specs.Texts.{is_attribute_at, one_text}
use Rattle.xf_def_forest.specs.WellFormed.{HasTrees}
use Rattle.xf_law_forests.specs.Root.Roots.{IsNoRoot}
use Rattle.xf_law_forests.specs.Rollback.Made.{IsGrowth}
use Rattle.xf_law_forests.proofs.RollbackLemmas.Trees.{Trees, onto, followed, times}
use Rattle.xf_law_forests.proofs.RollbackLemmas.TreeTexts.{lone, retexted, revalued}
use Rattle.xf_law_forests.proofs.RollbackLemmas.TreeFacts.{is_at}
use Rattle.xf_law_forests.proofs.RollbackLemmas.TreeMoves.{removed, found, detached-onto}
use Rattle.xf_law_forests.proofs.RollbackLemmas.TreePlaces.{with_tree, changed}
use Rattle.xf_law_forests.proofs.RollbackLemmas.TreeTops.{fresh-no_roots}
use Rattle.xf_law_forests.proofs.RollbackLemmas.MoveFacts.{removed-some}
use Rattle.xf_law_forests.proofs.RollbackLemmas.KeepingTrees.{Stands, stands}
use Rattle.xf_law_forests.proofs.RollbackLemmas.JoinSteps.{attribute-moves, element-moves, moves-no_root}
use Rattle.xf_law_forests.proofs.RollbackLemmas.GrowthSteps.{new-trees}
use Rattle.xf_law_forests.proofs.RollbackLemmas.TextSteps.{after-nodes}
use Rattle.xf_law_forests.proofs.RollbackLemmas.ValueSteps.{valued-nodes}
use Rattle.xf_law_invariants.proofs.PlannedLemmas.OutsideForests.{alone, alone-trees, Reading, reading, joined, kind-there, none-times, stands-once}
use Rattle.xf_law_invariants.proofs.PlannedLemmas.RootTrees.{known-trees, single-by, document-by, single-detached, under-detached, single-removed, single-changed, under-changed, under-followed, single-followed, single-rootless, under-rootless, single-revalued, single-retexted, under-removed, absent-under}
use Rattle.xf_law_invariants.specs.Planned.Roots.{AreSingle, IsNoDocument, is_single, is_under_root}

-- ---- a forest in hand

-- the trees of a forest
pub standing-trees : (forest : Forest) → HasTrees forest → Stands (alone forest)
standing-trees forest h = stands (alone forest) (alone-trees forest h)

pub no-root-at : (n : ℕ) (forest : Forest) (h : HasTrees forest) → IsNoRoot n forest → is_at is_root n (standing-trees forest h).trees ≡ false
no-root-at n forest h (inl e) = moves-no_root n (alone forest) (standing-trees forest h) kind.Element is_element element-moves e
no-root-at n forest h (inr e) = moves-no_root n (alone forest) (standing-trees forest h) kind.Attribute is_attribute attribute-moves e

pub no-root-stands : (n : ℕ) (forest : Forest) → IsNoRoot n forest → has_number n forest.nodes ≡ true
no-root-stands n forest (inl e) = kind-there n kind.Element forest.nodes e
no-root-stands n forest (inr e) = kind-there n kind.Attribute forest.nodes e

or-second : (a b : Bool) → (a || b) ≡ false → a ≡ false
or-second true b e = cc e
or-second false b e = refl

-- what is no root is none in what is left
removed-no-root : (q n : ℕ) (t : Trees) → is_at is_root q t ≡ false → is_at is_root q (removed n t) ≡ false
removed-no-root q n t e = or-second (is_at is_root q (removed n t)) (is_at is_root q (found n t)) (removed-some (λ m c. (m == q) && is_root c) n t ∙ e)

module _ (forest : Forest) (h : HasTrees forest) where
  abbrev pub s : Stands (alone forest)
  s = standing-trees forest h

  r : Reading forest
  r = reading forest h

  pub once : (n : ℕ) → has_number n forest.nodes ≡ true → times n s.trees ≡ 1
  once n live = ap (times n) (known-trees forest.nodes s.trees r.trees s.nodes r.nodes) ∙ stands-once n forest r live

  pub cut-nodes : (n : ℕ) → IsNoRoot n forest → (detached n forest).nodes ≡ onto 0 (followed (removed n s.trees) (found n s.trees)) []
  cut-nodes n is = detached-onto n s.trees forest s.nodes (once n (no-root-stands n forest is))

  pub single_detached : (n : ℕ) → IsNoRoot n forest → AreSingle forest.nodes → AreSingle (detached n forest).nodes
  single_detached n is a =
      single-by (detached n forest).nodes (followed (removed n s.trees) (found n s.trees)) (cut-nodes n is) (single-detached n s.trees (no-root-at n forest h is) (a s.trees s.nodes))

  pub document_detached : (n m : ℕ) → IsNoRoot m forest → IsNoDocument n forest.nodes → IsNoDocument n (detached m forest).nodes
  document_detached n m is a =
      document-by n (detached m forest).nodes (followed (removed m s.trees) (found m s.trees)) (cut-nodes m is) (under-detached n m s.trees (no-root-at m forest h is) (a s.trees s.nodes))

  pub join-nodes : (n q place : ℕ) → MayPlace n q forest → has_number q forest.nodes ≡ true → (placed n q place forest).nodes ≡ onto 0 (changed q (with_tree place (found n s.trees)) (removed n s.trees)) []
  join-nodes n q place may live =
      let j = joined n q place forest r may live in
      let same = known-trees forest.nodes r.trees s.trees r.nodes s.nodes in
      subst (λ t. (placed n q place forest).nodes ≡ onto 0 (changed q (with_tree place (found n t)) (removed n t)) []) same j.nodes

  pub single_placed : (n q place : ℕ) → MayPlace n q forest → IsNoRoot q forest → AreSingle forest.nodes → AreSingle (placed n q place forest).nodes
  single_placed n q place may is a =
      single-by (placed n q place forest).nodes (changed q (with_tree place (found n s.trees)) (removed n s.trees)) (join-nodes n q place may (no-root-stands q forest is))
      (single-changed q (with_tree place (found n s.trees)) (removed n s.trees) (removed-no-root q n s.trees (no-root-at q forest h is)) (single-removed n s.trees (a s.trees s.nodes)))

  pub document_placed : (m n q place : ℕ) → MayPlace n q forest → IsNoRoot q forest → IsNoDocument m forest.nodes → IsNoDocument m (placed n q place forest).nodes
  document_placed m n q place may is a =
      document-by m (placed n q place forest).nodes (changed q (with_tree place (found n s.trees)) (removed n s.trees)) (join-nodes n q place may (no-root-stands q forest is))
      (under-changed m q (with_tree place (found n s.trees)) (removed n s.trees) (removed-no-root q n s.trees (no-root-at q forest h is)) (under-removed m n s.trees (a s.trees s.nodes)))

  -- new trees behind all others
  module _ (contents : List (ℕ × Content)) (growth : IsGrowth contents) (after : HasTrees (record { nodes = forest.nodes ++ numbered_from forest.next contents; next = forest.next + length contents })) where
    abbrev grown : Forest
    grown = record { nodes = forest.nodes ++ numbered_from forest.next contents; next = forest.next + length contents }

    pub single_grown : AreSingle forest.nodes → AreSingle (forest.nodes ++ numbered_from forest.next contents)
    single_grown a t e =
        let n = new-trees contents (alone forest) growth (alone-trees grown after) s t e in
        subst (λ x. is_single x ≡ true) (sym n.is) (single-followed s.trees n.new (a s.trees s.nodes) (single-rootless n.new (fresh-no_roots forest.next n.new n.fresh)))

    pub document_grown : (m : ℕ) → IsNoDocument m forest.nodes → IsNoDocument m (forest.nodes ++ numbered_from forest.next contents)
    document_grown m a t e =
        let n = new-trees contents (alone forest) growth (alone-trees grown after) s t e in
        subst (λ x. is_under_root m x ≡ false) (sym n.is) (under-followed m s.trees n.new (a s.trees s.nodes) (under-rootless m n.new (fresh-no_roots forest.next n.new n.fresh)))

  -- a number that does not stand
  pub document_none : (m : ℕ) → has_number m forest.nodes ≡ false → IsNoDocument m forest.nodes
  document_none m e = document-by m forest.nodes s.trees s.nodes (absent-under m s.trees (none-times m s.trees forest.nodes s.nodes e))

  pub single_text : (number more n : ℕ) (text : List ℕ) → IsSettable n forest → AreSingle forest.nodes → AreSingle (with_numbered_text number n text forest.nodes)
  single_text number more n text able a =
      elim (cases_Bool (is_attribute_at n forest.nodes)) [
        | inl e ↦
            let k = valued-nodes number more n text (alone forest) (alone-trees forest h) able s e in
            single-by (with_numbered_text number n text forest.nodes) (revalued n text s.trees) k (single-revalued n text s.trees ∙ a s.trees s.nodes)
        | inr e ↦
            let k = after-nodes number more n text (alone forest) (alone-trees forest h) able s e in
            single-by (with_numbered_text number n text forest.nodes) (retexted n (lone (one_text number text)) s.trees) k
            (single-retexted n (lone (one_text number text)) s.trees (no-root-at n forest h (no-root able.kind)) (a s.trees s.nodes))
      ]
    where
      no-root : (kind_at n forest.nodes ≡ Some kind.Attribute) ⊎ (kind_at n forest.nodes ≡ Some kind.Element) → IsNoRoot n forest
      no-root (inl e) = inr e
      no-root (inr e) = inl e

-- A tree that is detached or attached carries the whole on.
use Rattle.std.proofs.Common.{◌≡◌, ℕ, ◌==◌, Bool, true, false, ◌||◌, List, [], ◌∷◌, ◌++◌, map, refl, sym, ap, ◌∙◌, inl, inr}
use Rattle.xf_def_forest.specs.Forest.{Forest, has_number, first_tree, tree_of}
use Rattle.xf_def_forest.specs.Visit.{Visit, visits, has}
use Rattle.xf_def_forest.specs.Changes.{in_instances, in_detached, detached, placed}
use Rattle.xf_def_forest.specs.Same.{renumbered_visit}
use Rattle.xf_def_forest.specs.WellFormed.{HasTrees}
use Rattle.xf_def_forest.proofs.MoveLemmas.{from-behind}
use Rattle.xf_def_forest.proofs.OrderLaws.{seen-has, visits-different}
use Rattle.xf_def_xpath.specs.Agree.{numbers_of, are_apart}
use Rattle.xf_law_recalculation.specs.Edit.Edits.{MarksMore}
use Rattle.xf_law_recalculation.specs.Marks.Instances.{standing}
use Rattle.xf_law_recalculation.proofs.EditLemmas.Attached.{tree_attached}
use Rattle.xf_law_recalculation.proofs.MarksLemmas.Behind.{front-apart}
use Rattle.xf_law_recalculation.proofs.EditLemmas.CutLaws.{tree-part}
use Rattle.xf_law_recalculation.proofs.EditLemmas.EditLaws.{same_at_first}
use Rattle.xf_law_recalculation.proofs.EditLemmas.FrontEdits.{tree_detached}
use Rattle.xf_law_recalculation.proofs.MarksLemmas.Standing.{parts, visits-parts}
use Rattle.xf_law_recalculation.specs.Change.Steps.{DetachedCarried, AttachedCarried, AttachedAgainCarried, MovedCarried, ReplacedCarried}
use Rattle.xf_law_recalculation.proofs.ChangeLemmas.Aside.{moved_aside, stays, carried-aside, none-has}
use Rattle.xf_law_recalculation.proofs.ChangeLemmas.Carry.{standing-apart, before-apart, differ-of, one-mark, more-lists, whole_carried}
use Rattle.xf_law_recalculation.proofs.ChangeLemmas.OthersCarry.{visits-kept}

-- ---- a tree that stands in no instance

-- has no number of one
pub outside-tree : (n : ℕ) (forest : Forest) → HasTrees forest → has_number n (in_instances forest.nodes) ≡ false → (k : ℕ) → has_number k (tree_of n forest.nodes) ≡ true → has k (numbers_of (standing forest)) ≡ false
outside-tree n forest trees outside k h =
    differ-of (has k (numbers_of (standing forest))) (λ i. sym there ∙ front-apart (standing forest) (visits (in_detached forest.nodes)) apart k i)
  where
    apart : are_apart (numbers_of (standing forest ++ visits (in_detached forest.nodes))) ≡ true
    apart = ap (λ xs. are_apart (numbers_of xs)) (sym (visits-parts forest.nodes)) ∙ visits-different forest trees

    same_tree : tree_of n forest.nodes ≡ tree_of n (in_detached forest.nodes)
    same_tree = ap (tree_of n) (parts forest.nodes) ∙ ap first_tree (from-behind n (in_instances forest.nodes) (in_detached forest.nodes) outside)

    there : has k (numbers_of (visits (in_detached forest.nodes))) ≡ true
    there = seen-has k [] (in_detached forest.nodes) ∙ tree-part k n (in_detached forest.nodes) (ap (has_number k) (sym same_tree) ∙ h)

-- ---- detached

pub detached_carried : DetachedCarried
detached_carried f taken more_taken texts lists more scope later documents n p forest before marks trees trees_after in_it takes docs carried = record {
  same = whole_carried f texts lists texts more [] (p ∷ []) scope later documents forest (detached n forest) before trees trees_after (more-lists lists more p marks) carried.same docs
      (tree_detached [] [] (p ∷ []) n p forest (standing forest) (one-mark p) trees in_it (standing-apart forest trees) (same_at_first (standing forest)))
      (tree_detached texts lists more n p forest (map (renumbered_visit f) (standing before)) marks trees in_it (before-apart f texts lists scope documents forest before carried.same) carried.same.nodes);
  nodes = takes.nodes;
  was = λ k h. elim (carried.was k h) [ inl e ↦ inl (takes.keeps (f k) e) | inr e ↦ inr e ];
  less = takes.less;
  few = takes.few;
  few_before = carried.few_before;
  solid = carried.solid;
}

-- ---- attached

pub attached_carried : AttachedCarried
attached_carried f taken more_taken texts lists more scope later documents n p place forest before marks comes new takes docs carried = record {
  same = whole_carried f texts lists texts more [] (p ∷ []) scope later documents forest (placed n p place forest) before comes.trees comes.trees_after (more-lists lists more p marks) carried.same docs
      (tree_attached [] [] (p ∷ []) n p place comes.top forest (standing forest) (one-mark p) comes.trees comes.trees_after comes.stands comes.solid comes.outside comes.parent comes.ahead
      (standing-apart forest comes.trees) (outside-tree n forest comes.trees comes.outside) (same_at_first (standing forest)))
      (tree_attached texts lists more n p place comes.top forest (map (renumbered_visit f) (standing before)) marks comes.trees comes.trees_after comes.stands comes.solid comes.outside comes.parent comes.ahead
      (before-apart f texts lists scope documents forest before carried.same) new carried.same.nodes);
  nodes = takes.nodes;
  was = λ k h. elim (carried.was k h) [ inl e ↦ inl (takes.keeps (f k) e) | inr e ↦ inr e ];
  less = takes.less;
  few = takes.few;
  few_before = carried.few_before;
  solid = carried.solid;
}

pub attached_again_carried : AttachedAgainCarried
attached_again_carried f taken more_taken texts lists more scope later documents n p place forest before marks comes takes docs carried = (
  moved_aside q f taken texts lists scope documents forest before comes.trees away carried,
  attached_carried (moved_aside q f taken texts lists scope documents forest before comes.trees away carried) taken more_taken texts lists more scope later documents n p place forest before marks comes
      (λ k h. none-has q f taken texts lists scope documents forest before comes.trees away carried k h (tree-part k n forest.nodes h)) takes docs
      (carried-aside q f taken texts lists scope documents forest before comes.trees away carried),
  stays q f taken texts lists scope documents forest before comes.trees away carried,
)
  where
    q : ℕ → Bool
    q k = has_number k (tree_of n forest.nodes)

    away : (k : ℕ) → q k ≡ true → has k (numbers_of (standing forest)) ≡ false
    away = outside-tree n forest comes.trees comes.outside

pub moved_carried : MovedCarried
moved_carried f taken more_taken texts lists some more scope later documents n p q place forest before marks marks_too trees in_it docs comes takes takes_too docs_too carried =
    attached_again_carried f taken more_taken texts some more scope later documents n q place (detached n forest) before marks_too comes takes_too docs_too
    (detached_carried f taken taken texts lists some scope scope documents n p forest before marks trees comes.trees in_it takes docs carried)

-- ---- a document element in place of another

pub replaced_carried : ReplacedCarried
replaced_carried f taken more_taken texts lists more scope later documents old n root forest before marks trees in_it comes new new_too takes docs carried = record {
  same = whole_carried f texts lists texts more [] (root ∷ []) scope later documents forest (placed n root 0 (detached old forest)) before trees comes.trees_after (more-lists lists more root marks) carried.same docs
      (tree_attached [] (root ∷ []) (root ∷ []) n root 0 comes.top (detached old forest) (standing forest) again_one comes.trees comes.trees_after comes.stands comes.solid comes.outside comes.parent comes.ahead
      (standing-apart forest trees) (λ k h. ap (λ l. has k (numbers_of l)) (sym (visits-kept (standing forest))) ∙ new_too k h)
      (tree_detached [] [] (root ∷ []) old root forest (standing forest) (one-mark root) trees in_it (standing-apart forest trees) (same_at_first (standing forest))))
      (tree_attached texts more more n root 0 comes.top (detached old forest) F again comes.trees comes.trees_after comes.stands comes.solid comes.outside comes.parent comes.ahead
      (before-apart f texts lists scope documents forest before carried.same) new
      (tree_detached texts lists more old root forest F marks trees in_it (before-apart f texts lists scope documents forest before carried.same) carried.same.nodes));
  nodes = takes.nodes;
  was = λ k h. elim (carried.was k h) [ inl e ↦ inl (takes.keeps (f k) e) | inr e ↦ inr e ];
  less = takes.less;
  few = takes.few;
  few_before = carried.few_before;
  solid = carried.solid;
}
  where
    F : List Visit
    F = map (renumbered_visit f) (standing before)

    twice : (b c d : Bool) → c ≡ (b || d) → c ≡ (b || c)
    twice true c d h = h
    twice false c d h = refl

    again : MarksMore more root more
    again k = twice (k == root) (has k more) (has k lists) (marks k)

    again_one : MarksMore (root ∷ []) root (root ∷ [])
    again_one k = twice (k == root) (has k (root ∷ [])) false refl

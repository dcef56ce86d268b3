-- Each change carries the whole on.
use Rattle.std.specs.Prelude.{ℕ, ◌≡◌, ◌^◌, Bool, true, false, not, List, [], map, nat_lt, nat_le, ◌⊎◌, Some}
use Rattle.std.specs.List.{list_all}
use Rattle.xf_def_forest.specs.declared.content.Node.{Node}
use Rattle.xf_def_forest.specs.Forest.{Forest, is_root, is_text, has_number, node_at, tree_of}
use Rattle.xf_def_forest.specs.Visit.{visits, has}
use Rattle.xf_def_forest.specs.Needs.{IsSettable}
use Rattle.xf_def_forest.specs.Changes.{in_instances, in_detached, detached, placed}
use Rattle.xf_def_forest.specs.Same.{renumbered_visit}
use Rattle.xf_def_forest.specs.Settle.{with_numbered_text, with_settled_text, has_text}
use Rattle.xf_def_forest.specs.Texts.{is_attribute_at}
use Rattle.xf_def_forest.specs.WellFormed.{HasTrees}
use Rattle.xf_def_xpath.specs.Given.{Document}
use Rattle.xf_def_xpath.specs.Agree.{numbers_of}
use Rattle.xf_def_model.specs.Rules.{Scope}
use Rattle.xf_law_recalculation.specs.Agree.Settles.{AreHung}
use Rattle.xf_law_recalculation.specs.Marks.Marks.{SameNodes}
use Rattle.xf_law_recalculation.specs.Marks.Instances.{standing, SameInstances}
use Rattle.xf_law_recalculation.specs.Edit.Edits.{MarksMore, StandsIn}
use Rattle.xf_law_recalculation.specs.Edit.InstanceEdits.{AreSolid}
use Rattle.xf_law_recalculation.specs.Change.Carried.{under, Carried, Takes, Follows}

-- ---- what stands under all of them

-- right after a recalculation
abbrev pub FirstCarried : Type 0
FirstCarried = (scope : Scope) (forest : Forest) → HasTrees forest → AreHung (visits forest.nodes) → nat_le forest.next (2 ^ 127) ≡ true → Follows [] scope scope forest →
    Carried (λ k. k) (under forest.next) [] [] scope scope.given.documents forest forest

-- whatever was done on the way, as where an instance had no document element: what is told of the nodes of now beside those of before, and
-- beside those of a moment between, is told of the whole
abbrev pub WholeCarried : Type 0
WholeCarried = (f : ℕ → ℕ) (texts lists all_texts all_lists since_texts since_lists : List ℕ) (scope later : Scope) (documents : List Document) (between now before : Forest) →
    HasTrees between → HasTrees now → ((k : ℕ) → has k lists ≡ true → has k all_lists ≡ true) →
    SameInstances f texts lists scope documents between before → Follows all_lists scope later now →
    SameNodes since_texts since_lists (standing now) (standing between) → SameNodes all_texts all_lists (standing now) (map (renumbered_visit f) (standing before)) →
    SameInstances f all_texts all_lists later documents now before

-- ---- changes of instances

-- a text that is set with a number that is not taken: with the next one, or with one that was reserved
abbrev pub TextCarried : Type 0
TextCarried = (f : ℕ → ℕ) (taken more_taken : ℕ → Bool) (texts lists more : List ℕ) (scope later : Scope) (documents : List Document) (number n next : ℕ) (text : List ℕ) (forest before : Forest) →
    let after : Forest = record { nodes = with_numbered_text number n text forest.nodes; next = next } in
    MarksMore texts n more → HasTrees forest → HasTrees after → IsSettable n forest → has_number n (in_instances forest.nodes) ≡ true → taken number ≡ false → nat_lt number (2 ^ 127) ≡ true →
    Takes taken more_taken after → Follows lists scope later after → Carried f taken texts lists scope documents forest before → Carried f more_taken more lists later documents after before

-- one that is set to what stood there, without a mark: nodes of before have other numbers then, but texts alone
abbrev pub AgainCarried : Type 0
AgainCarried = (f : ℕ → ℕ) (taken more_taken : ℕ → Bool) (texts lists : List ℕ) (scope : Scope) (documents : List Document) (number n next : ℕ) (text : List ℕ) (forest before : Forest) →
    let after : Forest = record { nodes = with_numbered_text number n text forest.nodes; next = next } in
    HasTrees forest → HasTrees after → IsSettable n forest → has_text n text forest.nodes ≡ true → taken number ≡ false → more_taken number ≡ true →
    AreSolid number forest.nodes texts → AreSolid number forest.nodes lists → Takes taken more_taken after → Follows lists scope scope after →
    Carried f taken texts lists scope documents forest before →
    (s : ℕ → ℕ) × Carried (λ k. s (f k)) more_taken texts lists scope documents after before
    × ((k : ℕ) (x : Node) → node_at (f k) forest.nodes ≡ Some x → is_text x.content ≡ false → s (f k) ≡ f k)

-- where no text comes in, as at an attribute or with the empty text, all is as it was (ElsewhereCarried)
abbrev pub StandsUnchanged : Type 0
StandsUnchanged = (number n : ℕ) (text : List ℕ) (forest : Forest) → HasTrees forest → IsSettable n forest → has_text n text forest.nodes ≡ true →
    (is_attribute_at n forest.nodes ≡ true) ⊎ (text ≡ []) → with_numbered_text number n text forest.nodes ≡ forest.nodes

-- a settled text, as a recalculation writes it: where it does not stand there
abbrev pub SettledCarried : Type 0
SettledCarried = (f : ℕ → ℕ) (taken more_taken : ℕ → Bool) (texts lists more : List ℕ) (scope : Scope) (documents : List Document) (number n : ℕ) (text : List ℕ) (forest before : Forest) →
    let after : Forest = record { nodes = with_settled_text number n text forest.nodes; next = forest.next } in
    MarksMore texts n more → HasTrees forest → HasTrees after → IsSettable n forest → has_number n (in_instances forest.nodes) ≡ true → taken number ≡ false → nat_lt number (2 ^ 127) ≡ true →
    Takes taken more_taken after → Follows lists scope scope after → Carried f taken texts lists scope documents forest before → Carried f more_taken more lists scope documents after before

-- a tree that is detached
abbrev pub DetachedCarried : Type 0
DetachedCarried = (f : ℕ → ℕ) (taken more_taken : ℕ → Bool) (texts lists more : List ℕ) (scope later : Scope) (documents : List Document) (n p : ℕ) (forest before : Forest) →
    MarksMore lists p more → HasTrees forest → HasTrees (detached n forest) → StandsIn n p (in_instances forest.nodes) →
    Takes taken more_taken (detached n forest) → Follows more scope later (detached n forest) →
    Carried f taken texts lists scope documents forest before → Carried f more_taken texts more later documents (detached n forest) before

-- a tree that may come from outside the instances to this place in one
pub record Comes (n p place : ℕ) (forest : Forest) : Type 0 where
  pub top : Node
  pub stands : node_at n forest.nodes ≡ Some top
  pub solid : is_text top.content ≡ false
  pub outside : has_number n (in_instances forest.nodes) ≡ false
  pub parent : has_number p (in_instances forest.nodes) ≡ true
  pub ahead : list_all (λ y. not (is_root y.content)) (in_detached forest.nodes) ≡ true
  pub trees : HasTrees forest
  pub trees_after : HasTrees (placed n p place forest)

-- no node of before has a number of the tree, as of a copy that was made since
abbrev pub IsNew : ℕ → Forest → (ℕ → ℕ) → Forest → Type 0
IsNew n forest f before = (k : ℕ) → has_number k (tree_of n forest.nodes) ≡ true → has k (numbers_of (map (renumbered_visit f) (standing before))) ≡ false

abbrev pub AttachedCarried : Type 0
AttachedCarried = (f : ℕ → ℕ) (taken more_taken : ℕ → Bool) (texts lists more : List ℕ) (scope later : Scope) (documents : List Document) (n p place : ℕ) (forest before : Forest) →
    MarksMore lists p more → Comes n p place forest → IsNew n forest f before →
    Takes taken more_taken (placed n p place forest) → Follows more scope later (placed n p place forest) →
    Carried f taken texts lists scope documents forest before → Carried f more_taken texts more later documents (placed n p place forest) before

-- a tree that stood before, and comes to another place: its nodes of before have numbers then that none of now has, and all others keep theirs
abbrev pub AttachedAgainCarried : Type 0
AttachedAgainCarried = (f : ℕ → ℕ) (taken more_taken : ℕ → Bool) (texts lists more : List ℕ) (scope later : Scope) (documents : List Document) (n p place : ℕ) (forest before : Forest) →
    MarksMore lists p more → Comes n p place forest →
    Takes taken more_taken (placed n p place forest) → Follows more scope later (placed n p place forest) →
    Carried f taken texts lists scope documents forest before →
    (g : ℕ → ℕ) × Carried g more_taken texts more later documents (placed n p place forest) before
    × ((k : ℕ) → has k (numbers_of (standing before)) ≡ true → has_number (f k) (tree_of n forest.nodes) ≡ false → g k ≡ f k)

-- so a tree of an instance that is detached and attached elsewhere, both lists marked
abbrev pub MovedCarried : Type 0
MovedCarried = (f : ℕ → ℕ) (taken more_taken : ℕ → Bool) (texts lists some more : List ℕ) (scope later : Scope) (documents : List Document) (n p q place : ℕ) (forest before : Forest) →
    MarksMore lists p some → MarksMore some q more → HasTrees forest → StandsIn n p (in_instances forest.nodes) → Follows some scope scope (detached n forest) → Comes n q place (detached n forest) →
    Takes taken taken (detached n forest) → Takes taken more_taken (placed n q place (detached n forest)) → Follows more scope later (placed n q place (detached n forest)) →
    Carried f taken texts lists scope documents forest before →
    (g : ℕ → ℕ) × Carried g more_taken texts more later documents (placed n q place (detached n forest)) before
    × ((k : ℕ) → has k (numbers_of (standing before)) ≡ true → has_number (f k) (tree_of n (detached n forest).nodes) ≡ false → g k ≡ f k)

-- a document element in place of another one: between the two the instance has none, so that only both carry the whole on
abbrev pub ReplacedCarried : Type 0
ReplacedCarried = (f : ℕ → ℕ) (taken more_taken : ℕ → Bool) (texts lists more : List ℕ) (scope later : Scope) (documents : List Document) (old n root : ℕ) (forest before : Forest) →
    MarksMore lists root more → HasTrees forest → StandsIn old root (in_instances forest.nodes) → Comes n root 0 (detached old forest) → IsNew n (detached old forest) f before →
    IsNew n (detached old forest) (λ k. k) forest →
    Takes taken more_taken (placed n root 0 (detached old forest)) → Follows more scope later (placed n root 0 (detached old forest)) →
    Carried f taken texts lists scope documents forest before → Carried f more_taken texts more later documents (placed n root 0 (detached old forest)) before

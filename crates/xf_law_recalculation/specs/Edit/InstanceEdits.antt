-- What is so of the instances of now beside the nodes of before stays so where one of their texts is set, or a tree is detached from them or
-- attached to them, with its mark: trees that are detached make no difference.
use Rattle.std.specs.Prelude.{ℕ, ◌≡◌, true, false, not, ◌&&◌, ◌==◌, nat_lt, ◌⊎◌, List, ◌∷◌, ◌++◌, map, length, Some, bytes_eq}
use Rattle.std.specs.List.{list_all, list_any}
use Rattle.xf_def_forest.specs.declared.content.Node.{Node}
use Rattle.xf_def_forest.specs.Forest.{Forest, is_root, is_text, own_text, has_number, node_at, tree_of}
use Rattle.xf_def_forest.specs.Needs.{IsSettable}
use Rattle.xf_def_forest.specs.Changes.{is_detached_top, in_instances, in_detached, detached, placed}
use Rattle.xf_def_forest.specs.Same.{IsRenumbering, renumbered_visit}
use Rattle.xf_def_forest.specs.Settle.{with_numbered_text, has_text}
use Rattle.xf_def_forest.specs.StringValue.{string_value}
use Rattle.xf_def_forest.specs.Visit.{Visit, has, visits, children_of}
use Rattle.xf_def_forest.specs.WellFormed.{HasTrees}
use Rattle.xf_def_xpath.specs.Agree.{numbers_of, are_apart}
use Rattle.xf_law_recalculation.specs.Marks.Marks.{SameNodes}
use Rattle.xf_law_recalculation.specs.Marks.Instances.{standing}
use Rattle.xf_law_recalculation.specs.Edit.Edits.{MarksMore, StandsIn}

-- the forest with the text of a node of an instance set, with a number that no node of before has
abbrev pub TextSetInInstances : Type 0
TextSetInInstances = (texts lists more : List ℕ) (number n next : ℕ) (text : List ℕ) (forest : Forest) (before : List Visit) → MarksMore texts n more →
    HasTrees forest → HasTrees (record { nodes = with_numbered_text number n text forest.nodes; next = next }) → IsSettable n forest → has_number n (in_instances forest.nodes) ≡ true →
    are_apart (numbers_of before) ≡ true → has number (numbers_of before) ≡ false →
    SameNodes texts lists (standing forest) before → SameNodes more lists (standing (record { nodes = with_numbered_text number n text forest.nodes; next = next })) before

-- the tree of an element or an attribute detached from the node in which it stands
abbrev pub TreeDetached : Type 0
TreeDetached = (texts lists more : List ℕ) (n p : ℕ) (forest : Forest) (before : List Visit) → MarksMore lists p more → HasTrees forest → StandsIn n p (in_instances forest.nodes) →
    are_apart (numbers_of before) ≡ true → SameNodes texts lists (standing forest) before → SameNodes texts more (standing (detached n forest)) before

-- a tree that does not stand in an instance placed below a node that does, where no node of before has a number of it; no instance stands behind it
abbrev pub TreeAttached : Type 0
TreeAttached = (texts lists more : List ℕ) (n p place : ℕ) (x : Node) (forest : Forest) (before : List Visit) → MarksMore lists p more → HasTrees forest → HasTrees (placed n p place forest) →
    node_at n forest.nodes ≡ Some x → is_text x.content ≡ false → has_number n (in_instances forest.nodes) ≡ false → has_number p (in_instances forest.nodes) ≡ true →
    list_all (λ y. not (is_root y.content)) (in_detached forest.nodes) ≡ true →
    are_apart (numbers_of before) ≡ true → ((k : ℕ) → has_number k (tree_of n forest.nodes) ≡ true → has k (numbers_of before) ≡ false) →
    SameNodes texts lists (standing forest) before → SameNodes texts more (standing (placed n p place forest)) before

-- ---- a text that is set to what stood there, which has no mark

-- numbers of texts change alone, or this new one
pub record AreTextNumbers (number : ℕ) (nodes : List Node) (s : ℕ → ℕ) : Type 0 where
  pub renumbers : IsRenumbering s
  pub solid : (k : ℕ) → (k == number) ≡ false → ((x : Node) → node_at k nodes ≡ Some x → is_text x.content ≡ false) → s k ≡ k
  pub numbers : (k : ℕ) → (s k ≡ k) ⊎ ((s k ≡ number) ⊎ (has_number (s k) nodes ≡ true))

-- what does not stand in the node keeps its number
abbrev pub KeepsBeside : ℕ → ℕ → List Node → (ℕ → ℕ) → Type 0
KeepsBeside number n nodes s = (k : ℕ) → (k == number) ≡ false → has_number k (tree_of n nodes) ≡ false → s k ≡ k

-- no mark is on a text
abbrev pub AreSolid : ℕ → List Node → List ℕ → Type 0
AreSolid number nodes marks = (k : ℕ) → has k marks ≡ true → ((k == number) ≡ false) × ((x : Node) → node_at k nodes ≡ Some x → is_text x.content ≡ false)

-- the nodes of before with other numbers of texts then
abbrev pub TextAgain : Type 0
TextAgain = (texts lists : List ℕ) (number n next : ℕ) (text : List ℕ) (forest : Forest) (before : List Visit) → HasTrees forest → IsSettable n forest → has_text n text forest.nodes ≡ true →
    has_number number forest.nodes ≡ false → AreSolid number forest.nodes texts → AreSolid number forest.nodes lists → SameNodes texts lists (standing forest) before →
    (s : ℕ → ℕ) × AreTextNumbers number forest.nodes s × KeepsBeside number n forest.nodes s × SameNodes texts lists (standing (record { nodes = with_numbered_text number n text forest.nodes; next = next })) (map (renumbered_visit s) before)

-- what is not another text, and stands alone, stands there already, where no text is empty: so no mark is set
abbrev pub StandsThere : Type 0
StandsThere = (n : ℕ) (text : List ℕ) (forest : Forest) → HasTrees forest → IsSettable n forest → list_any (λ x. is_text x.content && (length (own_text x.content) == 0)) forest.nodes ≡ false →
    bytes_eq (string_value n (visits forest.nodes)) text ≡ true → nat_lt 1 (length (children_of n (visits forest.nodes))) ≡ false → has_text n text forest.nodes ≡ true

-- ---- changes of detached trees: the instances are as they were

abbrev pub TextElsewhere : Type 0
TextElsewhere = (number n : ℕ) (text : List ℕ) (nodes : List Node) → has_number n (in_instances nodes) ≡ false → in_instances (with_numbered_text number n text nodes) ≡ in_instances nodes

-- a tree that comes behind all others
abbrev pub TreeBehind : Type 0
TreeBehind = (top : Node) (below nodes : List Node) → is_detached_top top ≡ true → in_instances (nodes ++ top ∷ below) ≡ in_instances nodes

-- a tree that is detached from a detached one
abbrev pub DetachedElsewhere : Type 0
DetachedElsewhere = (n : ℕ) (forest : Forest) → HasTrees forest → has_number n forest.nodes ≡ true → has_number n (in_instances forest.nodes) ≡ false → list_all (λ y. not (is_root y.content)) (in_detached forest.nodes) ≡ true →
    in_instances (detached n forest).nodes ≡ in_instances forest.nodes

-- a tree that is attached to a detached one
abbrev pub AttachedElsewhere : Type 0
AttachedElsewhere = (n p place : ℕ) (forest : Forest) → has_number n (in_instances forest.nodes) ≡ false → has_number p (in_instances forest.nodes) ≡ false → list_all (λ y. not (is_root y.content)) (in_detached forest.nodes) ≡ true →
    in_instances (placed n p place forest).nodes ≡ in_instances forest.nodes

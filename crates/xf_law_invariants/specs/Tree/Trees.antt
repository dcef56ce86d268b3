-- A change of a forest of trees leaves one of trees (XPath 1.0, section 5): so it is after each change of the list of nodes, where a text is set at a node
-- that may have one and a tree comes below a node that may have it.
use Rattle.std.specs.Prelude.{ℕ, ◌≡◌, ◌<◌, false, List, length, Ok}
use Rattle.xf_def_forest.specs.declared.content.Content.{Content}
use Rattle.xf_def_forest.specs.Changes.{attached, copied, detached, in_instances, placed}
use Rattle.xf_def_forest.specs.Forest.{Forest, has_number}
use Rattle.xf_def_forest.specs.Limits.{Limits}
use Rattle.xf_def_forest.specs.Needs.{IsSettable, MayPlace}
use Rattle.xf_def_forest.specs.Plant.{numbered_from}
use Rattle.xf_def_forest.specs.Planted.{with_tree}
use Rattle.xf_def_forest.specs.Settle.{with_settled_text}
use Rattle.xf_def_forest.specs.Texts.{with_text}
use Rattle.xf_def_forest.specs.WellFormed.{HasTrees}

-- ---- trees that go

-- a tree cut off stands last
abbrev pub DetachedTrees : Type 0
DetachedTrees = (n : ℕ) (forest : Forest) → HasTrees forest → HasTrees (detached n forest)

-- the detached trees are dropped
abbrev pub DroppedTrees : Type 0
DroppedTrees = (forest : Forest) → HasTrees forest → HasTrees (record forest { nodes = in_instances forest.nodes })

-- ---- trees that come

-- by themselves they are trees
abbrev pub AreTreesAlone : List (ℕ × Content) → Type 0
AreTreesAlone contents = HasTrees (record { nodes = numbered_from 0 contents; next = length contents })

abbrev pub PlantedTrees : Type 0
PlantedTrees = (l : Limits) (contents : List (ℕ × Content)) (m : ℕ) (forest after : Forest) → HasTrees forest → AreTreesAlone contents → with_tree l contents forest ≡ Ok (m, after) → HasTrees after

-- a copy of any tree that stands
abbrev pub CopiedTrees : Type 0
CopiedTrees = (l : Limits) (n m : ℕ) (forest after : Forest) → HasTrees forest → copied l n forest ≡ Ok (m, after) → HasTrees after

-- ---- a tree that comes below a node

-- an element below an element or a root, an attribute below an element
abbrev pub PlacedTrees : Type 0
PlacedTrees = (n parent place : ℕ) (forest : Forest) → HasTrees forest → MayPlace n parent forest → HasTrees (placed n parent place forest)

abbrev pub AttachedTrees : Type 0
AttachedTrees = (l : Limits) (n parent place : ℕ) (forest after : Forest) → HasTrees forest → MayPlace n parent forest → attached l n parent place forest ≡ Ok after → HasTrees after

pub record PlaceLaws : Type 0 where
  pub placed : PlacedTrees
  pub attached : AttachedTrees

-- ---- texts

-- at an attribute, or at an element without element children
abbrev pub TextTrees : Type 0
TextTrees = (n : ℕ) (text : List ℕ) (forest : Forest) → HasTrees forest → IsSettable n forest → HasTrees (with_text n text forest)

-- with a number that was reserved
abbrev pub SettledTrees : Type 0
SettledTrees = (number n : ℕ) (text : List ℕ) (forest : Forest) → HasTrees forest → IsSettable n forest → has_number number forest.nodes ≡ false → number < forest.next
    → HasTrees (record forest { nodes = with_settled_text number n text forest.nodes })

pub record TextLaws : Type 0 where
  pub text : TextTrees
  pub settled : SettledTrees

-- ---- what goes and what comes

pub record TreeLaws : Type 0 where
  pub detached : DetachedTrees
  pub dropped : DroppedTrees
  pub planted : PlantedTrees
  pub copied : CopiedTrees

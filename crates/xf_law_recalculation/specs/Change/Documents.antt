-- The document element of an instance is the first child of its root: a change that leaves the list of the root unmarked leaves it.
use Rattle.std.specs.Prelude.{ℕ, ◌≡◌, ◌⊎◌, Bool, true, false, not, ◌&&◌, ◌==◌, List, Some}
use Rattle.std.specs.List.{list_any, list_all}
use Rattle.xf_def_forest.specs.declared.content.Node.{Node}
use Rattle.xf_def_forest.specs.declared.content.Content.TheVariants.{Root}
use Rattle.xf_def_forest.specs.declared.content.Kind.TheVariants as kind
use Rattle.xf_def_forest.specs.Forest.{Forest, is_root, content_at, kind_at, has_number}
use Rattle.xf_def_forest.specs.Visit.{visits, has, first_of, children_of}
use Rattle.xf_def_forest.specs.Changes.{in_instances, in_detached, root_of, detached, placed}
use Rattle.xf_def_forest.specs.Settle.{with_numbered_text}
use Rattle.xf_def_forest.specs.WellFormed.{HasTrees}
use Rattle.xf_law_recalculation.specs.Agree.Settles.{AreHung}
use Rattle.xf_law_recalculation.specs.Marks.Marks.{SameNodes}
use Rattle.xf_law_recalculation.specs.Marks.Instances.{standing}

-- a root of an instance
pub record IsRootOf (root : ℕ) (forest : Forest) : Type 0 where
  pub trees : HasTrees forest
  pub hung : AreHung (visits forest.nodes)
  pub content : content_at root forest.nodes ≡ Some Root
  pub stands : has_number root (in_instances forest.nodes) ≡ true

abbrev pub DocumentStays : Type 0
DocumentStays = (texts lists : List ℕ) (root : ℕ) (forest after : Forest) → IsRootOf root forest → IsRootOf root after → has root lists ≡ false →
    SameNodes texts lists (standing after) (standing forest) → first_of (children_of root (visits after.nodes)) ≡ first_of (children_of root (visits forest.nodes))

-- ---- each change leaves the roots

abbrev pub is_root_in : ℕ → List Node → Bool
is_root_in root nodes = list_any (λ x. (x.number == root) && is_root x.content) nodes

-- where none stands behind the instances it is one of an instance
abbrev pub RootStands : Type 0
RootStands = (root : ℕ) (forest : Forest) → HasTrees forest → AreHung (visits forest.nodes) → list_all (λ y. not (is_root y.content)) (in_detached forest.nodes) ≡ true → is_root_in root forest.nodes ≡ true → IsRootOf root forest

abbrev pub RootStaysText : Type 0
RootStaysText = (number n root : ℕ) (text : List ℕ) (forest : Forest) → HasTrees forest → is_root_in root forest.nodes ≡ true → is_root_in root (with_numbered_text number n text forest.nodes) ≡ true

abbrev pub RootStaysDetached : Type 0
RootStaysDetached = (n root : ℕ) (forest : Forest) → HasTrees forest → (kind_at n forest.nodes ≡ Some kind.Element) ⊎ (kind_at n forest.nodes ≡ Some kind.Attribute) →
    is_root_in root forest.nodes ≡ true → is_root_in root (detached n forest).nodes ≡ true

abbrev pub RootStaysPlaced : Type 0
RootStaysPlaced = (n p place root : ℕ) (forest : Forest) → HasTrees forest → (kind_at n forest.nodes ≡ Some kind.Element) ⊎ (kind_at n forest.nodes ≡ Some kind.Attribute) →
    is_root_in root forest.nodes ≡ true → is_root_in root (placed n p place forest).nodes ≡ true

-- and their places among the roots
abbrev pub RootKeepsPlaceText : Type 0
RootKeepsPlaceText = (number n place : ℕ) (text : List ℕ) (forest : Forest) → HasTrees forest → root_of place (with_numbered_text number n text forest.nodes) ≡ root_of place forest.nodes

abbrev pub RootKeepsPlaceDetached : Type 0
RootKeepsPlaceDetached = (n place : ℕ) (forest : Forest) → HasTrees forest → (kind_at n forest.nodes ≡ Some kind.Element) ⊎ (kind_at n forest.nodes ≡ Some kind.Attribute) →
    root_of place (detached n forest).nodes ≡ root_of place forest.nodes

abbrev pub RootKeepsPlacePlaced : Type 0
RootKeepsPlacePlaced = (n p at place : ℕ) (forest : Forest) → HasTrees forest → (kind_at n forest.nodes ≡ Some kind.Element) ⊎ (kind_at n forest.nodes ≡ Some kind.Attribute) →
    root_of place (placed n p at forest).nodes ≡ root_of place forest.nodes

-- The roots of the instances keep their places whatever trees come and go.
use Rattle.std.specs.Prelude.{ℕ, ◌≡◌, List, [], Ok}
use Rattle.xf_def_forest.specs.declared.content.Content.{Content}
use Rattle.xf_def_forest.specs.declared.content.Node.{Node}
use Rattle.xf_def_forest.specs.Changes.{attached, copied, detached, in_detached, in_instances, root_of}
use Rattle.xf_def_forest.specs.Forest.{Forest}
use Rattle.xf_def_forest.specs.Limits.{Limits}
use Rattle.xf_def_forest.specs.Needs.{MayAttach}
use Rattle.xf_def_forest.specs.Planted.{with_tree}
use Rattle.xf_def_forest.specs.WellFormed.{HasTrees}
use Rattle.xf_law_forests.specs.Rollback.Made.{IsGrowth}
use Rattle.xf_law_forests.specs.Root.Roots.{AreAhead, IsNoRoot}

abbrev pub SameRoots : List Node → List Node → Type 0
SameRoots nodes after = (place : ℕ) → root_of place after ≡ root_of place nodes

abbrev pub RootsPlanted : Type 0
RootsPlanted = (l : Limits) (contents : List (ℕ × Content)) (m : ℕ) (forest after : Forest) → IsGrowth contents → with_tree l contents forest ≡ Ok (m, after) → SameRoots forest.nodes after.nodes

abbrev pub RootsCopied : Type 0
RootsCopied = (l : Limits) (n m : ℕ) (forest after : Forest) → HasTrees forest → IsNoRoot n forest → copied l n forest ≡ Ok (m, after) → SameRoots forest.nodes after.nodes

abbrev pub RootsDetached : Type 0
RootsDetached = (n : ℕ) (forest : Forest) → HasTrees forest → IsNoRoot n forest → SameRoots forest.nodes (detached n forest).nodes

abbrev pub RootsAttached : Type 0
RootsAttached = (l : Limits) (n parent place : ℕ) (forest after : Forest) → HasTrees forest → MayAttach n parent place forest → attached l n parent place forest ≡ Ok after → SameRoots forest.nodes after.nodes

abbrev pub RootsDropped : Type 0
RootsDropped = (nodes : List Node) → AreAhead nodes → SameRoots nodes (in_instances nodes)

-- none is detached then
abbrev pub AloneDropped : Type 0
AloneDropped = (nodes : List Node) → in_detached (in_instances nodes) ≡ []

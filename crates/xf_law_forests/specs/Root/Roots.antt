-- The roots of the instances stand before all detached trees, in the order in which they came: no change of a forest brings one behind, and
-- none but a new instance brings one more.
use Rattle.std.specs.Prelude.{ℕ, ◌≡◌, ◌⊎◌, Bool, true, not, ◌&&◌, List, [], ◌∷◌, ◌++◌, map, filter, nat_lt, Some, slice_get}
use Rattle.std.specs.List.{list_all}
use Rattle.xf_def_forest.specs.declared.content.Content.{Content}
use Rattle.xf_def_forest.specs.declared.content.Node.{Node}
use Rattle.xf_def_forest.specs.declared.content.Kind.TheVariants as kind
use Rattle.xf_def_forest.specs.Forest.{Forest, empty, is_root, kind_at}
use Rattle.xf_def_forest.specs.Plant.{numbered_from}
use Rattle.xf_def_forest.specs.Changes.{in_instances, in_detached, root_of, with_root, detached, placed}
use Rattle.xf_def_forest.specs.Texts.{Keeping}
use Rattle.xf_def_forest.specs.Settle.{with_numbered_text}
use Rattle.xf_def_forest.specs.Needs.{MayRoot}
use Rattle.xf_def_forest.specs.WellFormed.{HasTrees, AreTrees}
use Rattle.xf_def_forest.specs.Undo.{Ledger, rolled_back}
use Rattle.xf_law_forests.specs.Rollback.Made.{Made, IsGrowth}

-- no root stands behind the instances
abbrev pub AreAhead : List Node → Type 0
AreAhead nodes = list_all (λ y. not (is_root y.content)) (in_detached nodes) ≡ true

-- the numbers of the roots, one for each instance
abbrev pub roots_in : List Node → List ℕ
roots_in nodes = map (λ x. x.number) (filter (λ x. is_root x.content) nodes)

abbrev pub are_rising : List ℕ → Bool
are_rising [] = true
are_rising (n ∷ ns) = list_all (nat_lt n) ns && are_rising ns

-- the roots stand first, each before those that came after it
pub record HasRoots (nodes : List Node) : Type 0 where
  pub ahead : AreAhead nodes
  pub rising : are_rising (roots_in nodes) ≡ true

-- a change leaves them there, and brings none and takes none
pub record RootsStay (nodes after : List Node) : Type 0 where
  pub ahead : AreAhead nodes → AreAhead after
  pub same : roots_in after ≡ roots_in nodes

-- ---- what it is for

abbrev pub EmptyHasRoots : Type 0
EmptyHasRoots = HasRoots empty.nodes

abbrev pub StayHasRoots : Type 0
StayHasRoots = (nodes after : List Node) → RootsStay nodes after → HasRoots nodes → HasRoots after

-- the root of an instance is told by its place
abbrev pub RootAtPlace : Type 0
RootAtPlace = (place : ℕ) (nodes : List Node) → root_of place nodes ≡ slice_get (roots_in nodes) place

-- ---- each change

abbrev pub RootsStayText : Type 0
RootsStayText = (number n : ℕ) (text : List ℕ) (forest : Forest) → HasTrees forest → RootsStay forest.nodes (with_numbered_text number n text forest.nodes)

abbrev pub IsNoRoot : ℕ → Forest → Type 0
IsNoRoot n forest = (kind_at n forest.nodes ≡ Some kind.Element) ⊎ (kind_at n forest.nodes ≡ Some kind.Attribute)

abbrev pub RootsStayDetached : Type 0
RootsStayDetached = (n : ℕ) (forest : Forest) → HasTrees forest → IsNoRoot n forest → RootsStay forest.nodes (detached n forest).nodes

abbrev pub RootsStayPlaced : Type 0
RootsStayPlaced = (n p place : ℕ) (forest : Forest) → HasTrees forest → IsNoRoot n forest → RootsStay forest.nodes (placed n p place forest).nodes

-- new trees behind all others, as a planted tree and a copy
abbrev pub RootsStayGrown : Type 0
RootsStayGrown = (next : ℕ) (contents : List (ℕ × Content)) (nodes : List Node) → IsGrowth contents → RootsStay nodes (nodes ++ numbered_from next contents)

-- detached trees that are dropped
abbrev pub RootsStayDropped : Type 0
RootsStayDropped = (nodes : List Node) → AreAhead nodes → RootsStay nodes (in_instances nodes)

-- ---- a new instance: its root comes behind the others

abbrev pub RootAdded : Type 0
RootAdded = (top : ℕ) (forest : Forest) → HasTrees forest → MayRoot top forest → HasRoots forest.nodes →
    HasRoots (with_root top forest).1.nodes × (roots_in (with_root top forest).1.nodes ≡ roots_in forest.nodes ++ forest.next ∷ [])

-- ---- since a forest was kept

-- whatever was made of it, and where all is undone
abbrev pub RootsMade : Type 0
RootsMade = (start k : Keeping) (l : Ledger) → Made start l k → AreAhead k.forest.nodes × (roots_in k.forest.nodes ≡ roots_in start.forest.nodes)

abbrev pub RootsRolledBack : Type 0
RootsRolledBack = (start k : Keeping) (l : Ledger) → Made start l k → AreTrees k → AreAhead (rolled_back l k).forest.nodes × (roots_in (rolled_back l k).forest.nodes ≡ roots_in k.forest.nodes)

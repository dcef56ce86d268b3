-- What stands in a forest stays of its kind through each change of the list of nodes (XPath 1.0, section 5), and stands on: only the texts of an element
-- go where another text is set.
use Rattle.std.specs.Prelude.{ℕ, ◌≡◌, List, Some, Ok}
use Rattle.xf_def_forest.specs.declared.content.Content.{Content}
use Rattle.xf_def_forest.specs.declared.content.Kind.{Kind}
use Rattle.xf_def_forest.specs.Changes.{attached, copied, detached}
use Rattle.xf_def_forest.specs.Forest.{Forest, kind_at}
use Rattle.xf_def_forest.specs.Limits.{Limits}
use Rattle.xf_def_forest.specs.Needs.{MayPlace}
use Rattle.xf_def_forest.specs.Planted.{with_tree}
use Rattle.xf_def_forest.specs.WellFormed.{HasTrees}

-- what stands in the one stands in the other, and is of the same kind
abbrev pub KindsStay : Forest → Forest → Type 0
KindsStay before after = (m : ℕ) (k : Kind) → kind_at m before.nodes ≡ Some k → kind_at m after.nodes ≡ Some k

abbrev pub KindsDetached : Type 0
KindsDetached = (n : ℕ) (forest : Forest) → HasTrees forest → KindsStay forest (detached n forest)

abbrev pub KindsCopied : Type 0
KindsCopied = (l : Limits) (n m : ℕ) (forest after : Forest) → copied l n forest ≡ Ok (m, after) → KindsStay forest after

abbrev pub KindsPlanted : Type 0
KindsPlanted = (l : Limits) (contents : List (ℕ × Content)) (m : ℕ) (forest after : Forest) → with_tree l contents forest ≡ Ok (m, after) → KindsStay forest after

abbrev pub KindsAttached : Type 0
KindsAttached = (l : Limits) (n parent place : ℕ) (forest after : Forest) → HasTrees forest → MayPlace n parent forest → attached l n parent place forest ≡ Ok after → KindsStay forest after

pub record KindLaws : Type 0 where
  pub detached : KindsDetached
  pub copied : KindsCopied
  pub planted : KindsPlanted
  pub attached : KindsAttached

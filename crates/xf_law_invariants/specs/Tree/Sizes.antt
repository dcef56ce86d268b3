-- The limits of nodes and of all bytes hold after each change of a forest: what is cut off, attached or dropped brings nothing new, and what brings
-- something is refused where it would pass one.
use Rattle.std.specs.Prelude.{ℕ, ◌≡◌, List, None, Ok}
use Rattle.xf_def_forest.specs.declared.content.Content.{Content}
use Rattle.xf_def_forest.specs.declared.content.Node.{Node}
use Rattle.xf_def_forest.specs.Changes.{attached, copied, detached, in_instances}
use Rattle.xf_def_forest.specs.Forest.{Forest}
use Rattle.xf_def_forest.specs.Limits.{Limits, passed_by_all, passed_by_text}
use Rattle.xf_def_forest.specs.Planted.{with_tree}

abbrev pub SizesDetached : Type 0
SizesDetached = (l : Limits) (n : ℕ) (forest : Forest) → passed_by_all l forest.nodes ≡ None → passed_by_all l (detached n forest).nodes ≡ None

-- whatever depth the change was held to
abbrev pub SizesAttached : Type 0
SizesAttached = (l held : Limits) (n parent place : ℕ) (forest after : Forest) → attached held n parent place forest ≡ Ok after → passed_by_all l forest.nodes ≡ None → passed_by_all l after.nodes ≡ None

abbrev pub SizesDropped : Type 0
SizesDropped = (l : Limits) (nodes : List Node) → passed_by_all l nodes ≡ None → passed_by_all l (in_instances nodes) ≡ None

abbrev pub SizesCopied : Type 0
SizesCopied = (l : Limits) (n m : ℕ) (forest after : Forest) → copied l n forest ≡ Ok (m, after) → passed_by_all l after.nodes ≡ None

abbrev pub SizesPlanted : Type 0
SizesPlanted = (l : Limits) (contents : List (ℕ × Content)) (m : ℕ) (forest after : Forest) → with_tree l contents forest ≡ Ok (m, after) → passed_by_all l after.nodes ≡ None

-- a text that is set, of so many bytes
abbrev pub SizesText : Type 0
SizesText = (l : Limits) (size : ℕ) (nodes : List Node) → passed_by_text l size nodes ≡ None → passed_by_all l nodes ≡ None

pub record SizeLaws : Type 0 where
  pub detached : SizesDetached
  pub attached : SizesAttached
  pub dropped : SizesDropped
  pub copied : SizesCopied
  pub planted : SizesPlanted
  pub text : SizesText

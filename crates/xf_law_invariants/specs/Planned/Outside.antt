-- What is outside of a detached tree stays outside, where another tree is cut off or comes below a node that is not in it, and where new trees come.
use Rattle.std.specs.Prelude.{ℕ, ◌≡◌, ◌==◌, true, false, List, ◌++◌}
use Rattle.xf_def_forest.specs.declared.content.Node.{Node}
use Rattle.xf_def_forest.specs.Changes.{detached, placed}
use Rattle.xf_def_forest.specs.Forest.{Forest, has_number, tree_of}
use Rattle.xf_def_forest.specs.Needs.{MayPlace, is_top}
use Rattle.xf_def_forest.specs.WellFormed.{HasTrees}
use Rattle.xf_law_recalculation.specs.Agree.Hung.{begins_at_top}

-- the node is not in the tree of the other, which stands
pub record IsOutside (p n : ℕ) (nodes : List Node) : Type 0 where
  pub stands : has_number n nodes ≡ true
  pub outside : has_number p (tree_of n nodes) ≡ false

abbrev pub OutsideDetached : Type 0
OutsideDetached = (p n m : ℕ) (forest : Forest) → HasTrees forest → IsOutside p n forest.nodes → IsOutside p n (detached m forest).nodes

abbrev pub OutsidePlaced : Type 0
OutsidePlaced = (p n m q place : ℕ) (forest : Forest) → HasTrees forest → MayPlace m q forest → is_top n forest.nodes ≡ true → (n == m) ≡ false → IsOutside q n forest.nodes → IsOutside p n forest.nodes
    → IsOutside p n (placed m q place forest).nodes

abbrev pub OutsideGrown : Type 0
OutsideGrown = (p n : ℕ) (nodes trees : List Node) → begins_at_top trees ≡ true → IsOutside p n nodes → IsOutside p n (nodes ++ trees)

pub record OutsideLaws : Type 0 where
  pub detached : OutsideDetached
  pub placed : OutsidePlaced
  pub grown : OutsideGrown

-- The nodes whose paths are at hand.
use Rattle.std.specs.Prelude.{ℕ, ◌≡◌, List, ◌∷◌, reverse, string_bytes}
use Rattle.std.specs.List.{All, flat_map}
use Rattle.xf_def_forest.specs.declared.content.Node.{Node}
use Rattle.xf_def_forest.specs.Visit.{Visit, visits, ancestors_of}
use Rattle.xf_def_forest.specs.Path.{step_of}
use Rattle.xf_def_forest.specs.Shape.{has_elements}
use Rattle.xf_tree_paths.specs.declared.opened.OpenNode.{OpenNode}
use Rattle.xf_tree_paths.specs.Family.{HasKids}

-- the path of a node, but that of a root alone is empty: paths of nodes below begin with it
abbrev pub stem_of : List Visit → ℕ → List ℕ
stem_of all n = flat_map (step_of all) (reverse (n ∷ ancestors_of n all))

pub record IsOpen (nodes : List Node) (one : OpenNode) : Type 0 where
  pub stem : string_bytes one.stem ≡ stem_of (visits nodes) one.number
  pub kids : HasKids nodes one.number one.family
  pub elements : one.family.has_elements ≡ has_elements (visits nodes) one.number

abbrev pub AllOpen : List Node → List OpenNode → Type 0
AllOpen nodes open_nodes = All (IsOpen nodes) open_nodes

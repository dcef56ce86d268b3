-- Texts that stand in elements, told of a list of nodes by one look at each: no text is a top, and none stands in a root.
use Rattle.std.specs.Prelude.{ℕ, ◌≡◌, ◌⊎◌, Bool, true, not, ◌&&◌, ◌||◌, List, [], ◌∷◌, ◌++◌, Some, Ok, nat_lt, ◌==◌, if◌then◌else◌}
use Rattle.xf_def_forest.specs.declared.content.Node.{Node}
use Rattle.xf_def_forest.specs.declared.content.Kind.TheVariants.{Element, Attribute}
use Rattle.xf_def_forest.specs.Changes.{copied, detached, placed, in_instances}
use Rattle.xf_def_forest.specs.Forest.{Forest, is_root, is_text, kind_at}
use Rattle.xf_def_forest.specs.Limits.{Limits}
use Rattle.xf_def_forest.specs.Needs.{IsSettable, MayDetach}
use Rattle.xf_def_forest.specs.Settle.{with_numbered_text}
use Rattle.xf_def_forest.specs.Visit.{visits}
use Rattle.xf_def_forest.specs.WellFormed.{HasTrees}
use Rattle.xf_law_recalculation.specs.Agree.Settles.{AreHung}

-- whether the node may stand where the last top is a root, or is none
abbrev pub hangs : Bool → Node → Bool
hangs is_rooted x = not (is_text x.content) || nat_lt 1 x.depth || ((x.depth == 1) && not is_rooted)

-- whether the last top is a root behind the node
abbrev pub rooted_by : Bool → Node → Bool
rooted_by is_rooted x = if x.depth == 0 then is_root x.content else is_rooted

abbrev pub are_hung_from : Bool → List Node → Bool
are_hung_from is_rooted [] = true
are_hung_from is_rooted (x ∷ xs) = hangs is_rooted x && are_hung_from (rooted_by is_rooted x) xs

abbrev pub are_hung : List Node → Bool
are_hung nodes = are_hung_from true nodes

-- in a list of trees they stand in elements then
abbrev pub HungForest : Type 0
HungForest = (forest : Forest) → HasTrees forest → are_hung forest.nodes ≡ true → AreHung (visits forest.nodes)

-- ---- changes keep it

-- the first of these is a top
abbrev pub begins_at_top : List Node → Bool
begins_at_top [] = true
begins_at_top (x ∷ xs) = x.depth == 0

-- a text that is set, whatever number it has
abbrev pub HungText : Type 0
HungText = (forest : Forest) (number n : ℕ) (text : List ℕ) → HasTrees forest → IsSettable n forest → are_hung forest.nodes ≡ true → are_hung (with_numbered_text number n text forest.nodes) ≡ true

-- a tree that is cut off
abbrev pub HungDetached : Type 0
HungDetached = (forest : Forest) (n : ℕ) → MayDetach n forest → are_hung forest.nodes ≡ true → are_hung (detached n forest).nodes ≡ true

-- an element or attribute that comes to stand below a parent
abbrev pub HungPlaced : Type 0
HungPlaced = (forest : Forest) (n parent place : ℕ) → (kind_at n forest.nodes ≡ Some Element) ⊎ (kind_at n forest.nodes ≡ Some Attribute) →
    are_hung forest.nodes ≡ true → are_hung (placed n parent place forest).nodes ≡ true

-- new trees behind all others
abbrev pub HungGrown : Type 0
HungGrown = (nodes trees : List Node) → begins_at_top trees ≡ true → are_hung nodes ≡ true → are_hung trees ≡ true → are_hung (nodes ++ trees) ≡ true

-- a copy of an element or attribute, with what is below it
abbrev pub HungCopied : Type 0
HungCopied = (l : Limits) (forest after : Forest) (n k : ℕ) → (kind_at n forest.nodes ≡ Some Element) ⊎ (kind_at n forest.nodes ≡ Some Attribute) →
    copied l n forest ≡ Ok (k, after) → are_hung forest.nodes ≡ true → are_hung after.nodes ≡ true

-- the nodes of the instances alone
abbrev pub HungInstances : Type 0
HungInstances = (nodes : List Node) → are_hung nodes ≡ true → are_hung (in_instances nodes) ≡ true

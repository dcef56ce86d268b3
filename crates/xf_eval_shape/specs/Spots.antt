-- Nodes of the shape as the calls tell them, by their numbers, and which there are.
use Rattle.std.specs.Prelude.{ℕ, ◌≡◌, Bool, true, false, not, ◌&&◌, List, map, Option, Some, None}
use Rattle.std.specs.List.{list_all}
use Rattle.xf_def_forest.specs.declared.content.Node.{Node}
use Rattle.xf_def_forest.specs.declared.content.Content.{Content}
use Rattle.xf_def_forest.specs.Forest.{is_element, is_text, has_number, content_at}
use Rattle.xf_def_forest.specs.Visit.{Visit, visits, has}
use Rattle.xf_def_forest.specs.Shape.{erased, has_elements, shape_of, text_number}
use Rattle.xf_def_xpath.specs.Agree.{numbers_of}
use Rattle.xf_eval_shape.specs.declared.spot.Spot.{Spot}
use Rattle.xf_eval_shape.specs.declared.spot.Spot.TheVariants.{Node as Own, TextOf, Outside}

abbrev pub number_at : Spot → ℕ
number_at (Own node) = node.number
number_at (TextOf owner) = text_number owner.number
number_at (Outside node) = node.number

abbrev pub numbers_at : List Spot → List ℕ
numbers_at spots = map number_at spots

-- the visits of the shape, with empty texts
abbrev pub shaped : List Node → List Visit
shaped nodes = map erased (shape_of nodes)

-- a node with this number stands in the shape
abbrev pub stands : List Node → ℕ → Bool
stands nodes n = has n (numbers_of (shaped nodes))

abbrev pub is_element_in : Option Content → Bool
is_element_in None = false
is_element_in (Some content) = is_element content

-- an element without element children
abbrev pub is_leaf : List Node → ℕ → Bool
is_leaf nodes n = is_element_in (content_at n nodes) && not (has_elements (visits nodes) n)

abbrev pub is_spot : List Node → Spot → Bool
is_spot nodes (Own node) = has_number node.number nodes && stands nodes node.number
is_spot nodes (TextOf owner) = has_number owner.number nodes && is_leaf nodes owner.number
is_spot nodes (Outside node) = has_number node.number nodes && not (stands nodes node.number)

abbrev pub AreSpots : List Node → List Spot → Type 0
AreSpots nodes spots = list_all (is_spot nodes) spots ≡ true

abbrev pub is_text_in : Option Content → Bool
is_text_in None = false
is_text_in (Some content) = is_text content

-- elements stand right below this node, if it is one
abbrev pub is_filled : List Node → Option ℕ → Bool
is_filled nodes None = true
is_filled nodes (Some p) = has_elements (visits nodes) p

-- Nodes of the shape in document order (XPath 1.0, section 5), as the calls put them together: the nodes of the forest in their order, and
-- each text behind its element and the attributes of this.
use Rattle.std.specs.Prelude.{ℕ, Bool, false, ◌&&◌, ◌==◌, ◌++◌, List, [], ◌∷◌, Option, Some, None, if◌then◌else◌}
use Rattle.std.specs.List.{flat_map}
use Rattle.xf_def_forest.specs.declared.content.Node.{Node}
use Rattle.xf_def_forest.specs.declared.content.Content.{Content}
use Rattle.xf_def_forest.specs.Forest.{content_at, is_attribute, has_number}
use Rattle.xf_def_forest.specs.Visit.{ancestors_of, is_first, visits}
use Rattle.xf_def_forest.specs.Shape.{text_number}
use Rattle.xf_def_forest.specs.declared.node.NodeId.{NodeId}
use Rattle.xf_eval_shape.specs.declared.spot.Spot.{Spot}
use Rattle.xf_eval_shape.specs.declared.spot.Spot.TheVariants.{Node as Own, TextOf}
use Rattle.xf_eval_shape.specs.Spots.{is_leaf, stands}
use Rattle.xf_eval_shape.specs.Steps.{if_so}

-- ---- the parts of a list

abbrev pub own_number : Spot → List ℕ
own_number (Own node) = node.number ∷ []
own_number other = []

abbrev pub owner_number : Spot → List ℕ
owner_number (TextOf owner) = owner.number ∷ []
owner_number other = []

abbrev pub own_numbers : List Spot → List ℕ
own_numbers spots = flat_map own_number spots

abbrev pub owner_numbers : List Spot → List ℕ
owner_numbers spots = flat_map owner_number spots

abbrev pub all_number : Spot → List ℕ
all_number spot = own_number spot ++ owner_number spot

abbrev pub all_numbers : List Spot → List ℕ
all_numbers spots = flat_map all_number spots

-- a node of the forest that stands in the shape, and one that has one text there
abbrev pub is_shown : List Node → ℕ → Bool
is_shown nodes n = has_number n nodes && stands nodes n

abbrev pub is_owner : List Node → ℕ → Bool
is_owner nodes n = has_number n nodes && is_leaf nodes n

-- ---- put together

abbrev pub is_attribute_in : Option Content → Bool
is_attribute_in None = false
is_attribute_in (Some content) = is_attribute content

-- the node is an attribute of this element
abbrev pub is_attribute_of : List Node → ℕ → ℕ → Bool
is_attribute_of nodes owner n = is_attribute_in (content_at n nodes) && is_first owner (ancestors_of n (visits nodes))

abbrev pub waiting_text : Option ℕ → List ℕ
waiting_text None = []
waiting_text (Some owner) = text_number owner ∷ []

-- the text that waits comes before this node, unless it is an attribute of its element
abbrev pub flushed : (ℕ → ℕ → Bool) → Option ℕ → ℕ → List ℕ
flushed own None n = []
flushed own (Some owner) n = if own owner n then [] else text_number owner ∷ []

abbrev pub still_waiting : (ℕ → ℕ → Bool) → Option ℕ → ℕ → Option ℕ
still_waiting own None n = None
still_waiting own (Some owner) n = if own owner n then Some owner else None

abbrev pub now_waiting : Bool → ℕ → Option ℕ → Option ℕ
now_waiting b n waiting = if b then Some n else waiting

abbrev pub begins_with : ℕ → List ℕ → Bool
begins_with n [] = false
begins_with n (m ∷ ms) = m == n

abbrev pub past : ℕ → List ℕ → List ℕ
past n [] = []
past n (m ∷ ms) = if m == n then ms else m ∷ ms

-- of all, the nodes and the owners of texts, each in document order
abbrev pub woven : (ℕ → ℕ → Bool) → Option ℕ → List ℕ → List ℕ → List ℕ → List ℕ
woven own waiting [] nodes owners = waiting_text waiting
woven own waiting (n ∷ ns) nodes owners =
    flushed own waiting n ++ (if_so (begins_with n nodes) n
    ++ woven own (now_waiting (begins_with n owners) n (still_waiting own waiting n)) ns (past n nodes) (past n owners))

-- ---- the same as nodes

abbrev pub flushed_spots : (ℕ → ℕ → Bool) → Option NodeId → ℕ → List Spot
flushed_spots own None n = []
flushed_spots own (Some owner) n = if own owner.number n then [] else TextOf owner ∷ []

abbrev pub still_owner : (ℕ → ℕ → Bool) → Option NodeId → ℕ → Option NodeId
still_owner own None n = None
still_owner own (Some owner) n = if own owner.number n then Some owner else None

abbrev pub own_if : Bool → NodeId → List Spot
own_if b node = if b then Own node ∷ [] else []

-- What is found of a node's calculate, and what is known of an entry at a place.
use Rattle.std.specs.Prelude.{ℕ, ◌^◌, Bool, true, false, List, [], ◌∷◌, Option, Some, None, nat_lt}
use Rattle.xf_def_forest.specs.declared.content.Node.{Node}
use Rattle.xf_def_forest.specs.Visit.{Visit, has}
use Rattle.xf_def_forest.specs.Shape.{shape_of}
use Rattle.xf_def_xpath.specs.Agree.{numbers_of}
use Rattle.xf_def_model.specs.Rules.{Scope}
use Rattle.xf_def_model.specs.Applied.{Entry, is_calculate}
use Rattle.xf_binds.specs.declared.web.Asks.{Asks}
use Rattle.xf_binds_rebuild.specs.Web.{asks_of}
pub use Rattle.xf_binds.specs.Readers.{asks_or}

abbrev pub node_if : Bool → ℕ → List ℕ
node_if true n = n ∷ []
node_if false n = []

-- the node of an entry that is a calculate
abbrev pub calculated_at : Option Entry → List ℕ
calculated_at None = []
calculated_at (Some e) = node_if (is_calculate e) e.node

-- what it asks
abbrev pub asks_at : Scope → List Visit → Option Entry → List Asks
asks_at scope all None = []
asks_at scope all (Some e) = asks_of scope all e ∷ []

-- its node stands in the shape
abbrev pub is_there : List Node → Entry → Bool
is_there nodes e = has e.node (numbers_of (shape_of nodes))

-- its node has no number of a text of a shape
abbrev pub is_small : Entry → Bool
is_small e = nat_lt e.node (2 ^ 128)

abbrev pub holds_at : (Entry → Bool) → Option Entry → Bool
holds_at test None = true
holds_at test (Some e) = test e

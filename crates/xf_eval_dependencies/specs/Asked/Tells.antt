-- What an expression asks over the shape, as the calls tell it: of the lists only those of nodes that have one, since an attribute or a text
-- has none (XPath 1.0, section 5).
use Rattle.std.specs.Prelude.{ℕ, ◌≡◌, Bool, true, false, List, [], ◌∷◌, filter, Option, Some, None}
use Rattle.std.specs.List.{list_all}
use Rattle.xf_def_forest.specs.declared.content.Node.{Node}
use Rattle.xf_def_forest.specs.Visit.{Visit}
use Rattle.xf_def_xpath.specs.Asked.{found, has_list}
use Rattle.xf_def_xpath.specs.Asked as lang
use Rattle.xf_eval_shape.specs.declared.spot.Spot.{Spot}
use Rattle.xf_eval_shape.specs.Spots.{AreSpots, numbers_at, shaped}
use Rattle.xf_eval_shape.specs.Woven.{is_shown}
use Rattle.xf_eval_dependencies.specs.declared.asked.asked.Asked.{Asked}

abbrev pub has_list_at : Option Visit → Bool
has_list_at None = false
has_list_at (Some x) = has_list x.content

-- a node of the shape with a list of attributes and children
abbrev pub is_list : List Node → ℕ → Bool
is_list nodes n = has_list_at (found n (shaped nodes))

-- what is told speaks of nodes of the shape
pub record Stands (nodes : List Node) (told : Asked) : Type 0 where
  pub set : AreSpots nodes told.set.items
  -- those that are read have a number in the forest, too
  pub reads : list_all (is_shown nodes) told.reads ≡ true

-- it is what is asked
pub record Tells (nodes : List Node) (told : Asked) (asked : lang.Asked) : Type 0 where
  pub set : numbers_at told.set.items ≡ asked.set
  pub is_loose : told.is_loose ≡ asked.is_loose
  pub is_truth : told.is_truth ≡ asked.is_truth
  pub reads : told.reads ≡ asked.reads
  pub looks : told.looks ≡ filter (is_list nodes) asked.looks

-- the nodes of which the string value is asked
abbrev pub first_spots : Bool → List Spot → List Spot
first_spots true spots = spots
first_spots false [] = []
first_spots false (spot ∷ spots) = spot ∷ []

-- What a walk has left of the nodes that are sought.
use Rattle.std.specs.Prelude.{ℕ, ◌≡◌, ◌<◌, ◌&&◌, true, false, Bool, List, [], ◌∷◌, map, filter, length, Option}
use Rattle.slab.specs.Slab.{Slab}
use Rattle.xf_def_forest.specs.declared.content.Node.{Node}
use Rattle.xf_def_forest.specs.Forest.{content_at}
use Rattle.xf_tree_rows.specs.declared.rows.Row.{Row}
use Rattle.xf_tree_contents.specs.declared.sought.Sought.{Sought}
use Rattle.xf_tree_contents.specs.Slot.{Slot}
use Rattle.xf_tree_contents.specs.Sought.{is_met, is_sought}
use Rattle.xf_tree_walks.specs.declared.walk.Left.{Left}
use Rattle.xf_tree_walks.specs.Nodes.{node_of, is_kin}
use Rattle.xf_tree_walks.specs.Walks.{between, chosen, is_plain, left_of, walk_of, number_of_row, IsReady}

-- the node of these rows with a number is sought
abbrev pub is_met_in : Slab Slot → List Row → Sought → ℕ → Bool
is_met_in s rows sought n = is_met sought (content_at n (map (node_of s) rows))

abbrev pub left_met : Slab Slot → List Row → Sought → Left → List ℕ
left_met s rows sought left = filter (is_met_in s rows sought) (left_of s rows left)

abbrev pub walk_met : Slab Slot → List Row → Sought → Option ℕ → Left → List ℕ
walk_met s rows sought first left = filter (is_met_in s rows sought) (walk_of s rows first left)

-- what is sought of the nodes that meet a test, from one place to before another
abbrev pub sought_within : Slab Slot → List Row → Sought → (Node → Bool) → ℕ → ℕ → List ℕ
sought_within s rows sought test from to = filter (is_met_in s rows sought) (chosen s test (between from to rows))

abbrev pub is_kin_sought : ℕ → Sought → Node → Bool
is_kin_sought depth sought y = is_kin depth false y && is_sought sought y.content

abbrev pub is_plain_sought : Sought → Node → Bool
is_plain_sought sought y = is_plain y && is_sought sought y.content

-- a number alone, or none
abbrev pub alone_where : Bool → ℕ → List ℕ
alone_where true n = n ∷ []
alone_where false n = []

-- the row at this place comes next of what is sought, and then what the new walk has
pub record IsFound (s : Slab Slot) (rows : List Row) (sought : Sought) (old : Left) (at : ℕ) (new : Left) : Type 0 where
  pub within : at < length rows
  pub ready : IsReady rows new
  pub rest : left_met s rows sought old ≡ number_of_row s rows at ∷ left_met s rows sought new

-- What a walk over rows has left.
use Rattle.std.specs.Prelude.{ℕ, ◌≡◌, ◌+◌, ◌-◌, ◌<◌, ◌≤◌, ◌^◌, Bool, true, false, not, length, slice_index_or, List, [], ◌∷◌, take, drop, reverse, map, filter, Option, Some, None, IfSome, nat_lt, if◌then◌else◌}
use Rattle.slab.specs.Slab.{Slab, get}
use Rattle.xf_def_forest.specs.declared.content.Node.{Node}
use Rattle.xf_def_forest.specs.Forest.{is_attribute}
use Rattle.xf_def_forest.specs.Visit.{numbers}
use Rattle.xf_tree_rows.specs.declared.rows.Row.{Row}
use Rattle.xf_tree_rows.specs.Rows.{Sized, AllDeep, top_depth, no_row, depths, AreSteps}
use Rattle.xf_tree_contents.specs.Slot.{Slot}
use Rattle.xf_tree_contents.specs.Keys.{number_in}
use Rattle.xf_tree_walks.specs.declared.walk.Left.{Left}
use Rattle.xf_tree_walks.specs.declared.walk.Left.TheVariants.{Nothing, Trees, Attributes, Rows, Up, Back}
use Rattle.xf_tree_walks.specs.Leaves.{parts_in}
use Rattle.xf_tree_walks.specs.First.{AreFirst}
use Rattle.xf_tree_walks.specs.Nodes.{node_of, is_kin, times}

-- the rows from one place to before another
abbrev pub between : ℕ → ℕ → List Row → List Row
between from to rows = take (to - from) (drop from rows)

-- the numbers of the nodes of these rows that meet a test
abbrev pub chosen : Slab Slot → (Node → Bool) → List Row → List ℕ
chosen s test rows = numbers (filter test (map (node_of s) rows))

-- the attributes of this depth with which these nodes begin
abbrev pub attributes_ahead : ℕ → List Node → List Node
attributes_ahead depth [] = []
attributes_ahead depth (y ∷ ys) = if is_kin depth true y then y ∷ attributes_ahead depth ys else []

abbrev pub is_plain : Node → Bool
is_plain y = not (is_attribute y.content)

-- of rows that come from the nearest on, those that are less and less deep: the ancestors of a node of this depth behind them
abbrev pub climbed : ℕ → List Row → List Row
climbed depth [] = []
climbed depth (y ∷ ys) = if nat_lt y.depth depth then y ∷ climbed y.depth ys else climbed depth ys

abbrev pub ancestor_rows : List Row → ℕ → List Row
ancestor_rows rows at = climbed (top_depth (drop at rows)) (reverse (take at rows))

abbrev pub number_of_row : Slab Slot → List Row → ℕ → ℕ
number_of_row s rows at = number_in (get s (slice_index_or rows at no_row).key)

-- the numbers of the nodes that are left, in the order in which they come
abbrev pub left_of : Slab Slot → List Row → Left → List ℕ
left_of s rows Nothing = []
left_of s rows (Trees at end depth) = chosen s (is_kin depth false) (between at end rows)
left_of s rows (Attributes at depth) = numbers (attributes_ahead depth (map (node_of s) (drop at rows)))
left_of s rows (Rows at end) = chosen s is_plain (between at end rows)
left_of s rows (Up at) = numbers (map (node_of s) (ancestor_rows rows at))
left_of s rows (Back above at depth) = reverse (chosen s (is_kin depth false) (between (above + 1) at rows))

-- a first node, where there is one, and then what is left
abbrev pub walk_of : Slab Slot → List Row → Option ℕ → Left → List ℕ
walk_of s rows None left = left_of s rows left
walk_of s rows (Some at) left = number_of_row s rows at ∷ left_of s rows left

-- what the places hold to
abbrev pub IsReady : List Row → Left → Type 0
IsReady rows Nothing = Unit {0}
IsReady rows (Trees at end depth) = (end ≤ length rows) × AllDeep depth (between at end rows)
IsReady rows (Attributes at depth) = Unit {0}
IsReady rows (Rows at end) = end ≤ length rows
IsReady rows (Up at) = at < length rows
IsReady rows (Back above at depth) = (above < at) × (at ≤ length rows) × ((slice_index_or rows above no_row).depth < depth)

pub record IsWalk (rows : List Row) (first : Option ℕ) (left : Left) : Type 0 where
  pub sized : Sized rows
  pub within : IfSome first (λ at. at < length rows)
  pub ready : IsReady rows left

-- the row at this place comes next, and then what the new walk has
pub record IsStep (s : Slab Slot) (rows : List Row) (old : Left) (at : ℕ) (new : Left) : Type 0 where
  pub within : at < length rows
  pub ready : IsReady rows new
  pub rest : left_of s rows old ≡ number_of_row s rows at ∷ left_of s rows new

-- the rows of a forest's nodes
pub record AreNodes (s : Slab Slot) (rows : List Row) : Type 0 where
  pub sized : Sized rows
  pub steps : AreSteps 0 (depths rows)
  pub few : length rows < 2 ^ 31
  pub apart : (n : ℕ) → times n (map (node_of s) rows) ≤ 1
  pub first : AreFirst 0 (parts_in (map (node_of s) rows))

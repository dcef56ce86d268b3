-- What is read of rows: the texts that are left of a string value, and places in order.
use Rattle.std.specs.Prelude.{ℕ, suc, ◌+◌, ◌-◌, ◌<◌, ◌≤◌, ◌==◌, Bool, ◌&&◌, length, slice_index_or, List, [], ◌∷◌, take, drop, map, filter, nat_lt, if◌then◌else◌, true, false}
use Rattle.std.specs.List.{list_any}
use Rattle.slab.specs.Slab.{Slab, get}
use Rattle.xf_def_forest.specs.Forest.{own_text}
use Rattle.xf_def_forest.specs.StringValue.{characters, has_character}
use Rattle.xf_def_forest.specs.Visit.{has}
use Rattle.xf_tree_rows.specs.declared.rows.Row.{Row}
use Rattle.xf_tree_rows.specs.Rows.{tree_of, no_row}
use Rattle.xf_tree_contents.specs.Slot.{Slot}
use Rattle.xf_tree_contents.specs.Keys.{content_in}
use Rattle.xf_tree_walks.specs.Nodes.{node_of}
use Rattle.xf_tree_walks.specs.Walks.{number_of_row}

-- a first text and then those of these rows, without those that are empty
abbrev pub pieces_left : Slab Slot → List ℕ → List Row → List (List ℕ)
pieces_left s first rows = filter has_character (first ∷ map (λ y. characters y.content) (map (node_of s) rows))

-- those of the node whose row stands at a place
abbrev pub pieces_at : Slab Slot → List Row → ℕ → List (List ℕ)
pieces_at s rows at =
    pieces_left s (own_text (content_in (get s (slice_index_or rows at no_row).key))) (take (length (tree_of (drop at rows)) - 1) (drop (at + 1) rows))

-- ---- places in order

abbrev pub is_among : ℕ → List ℕ → Bool
is_among at places = list_any (λ p. p == at) places

-- at this place stands the row of one of these nodes
abbrev pub stands_one : Slab Slot → List Row → List ℕ → ℕ → Bool
stands_one s rows ns at = nat_lt at (length rows) && has (number_of_row s rows at) ns

abbrev pub AreWithin : ℕ → List ℕ → Type 0
AreWithin end [] = Unit {0}
AreWithin end (p ∷ ps) = (p < end) × AreWithin end ps

-- none is less than the one before it, nor than the least
abbrev pub AreUp : ℕ → List ℕ → Type 0
AreUp least [] = Unit {0}
AreUp least (p ∷ ps) = (least ≤ p) × AreUp p ps

-- of places that go up those from one on, each once
abbrev pub each_once : ℕ → List ℕ → List ℕ
each_once next [] = []
each_once next (p ∷ ps) = if nat_lt p next then each_once next ps else p ∷ each_once (suc p) ps

-- ---- the top of a tree

-- the last row of a list that begins with this one
abbrev pub last_row : Row → List Row → Row
last_row row [] = row
last_row row (x ∷ xs) = last_row x xs

-- the texts that are still to be found: none where the one was found
abbrev pub texts_left : Bool → List ℕ → List (List ℕ)
texts_left true text = []
texts_left false text = text ∷ []

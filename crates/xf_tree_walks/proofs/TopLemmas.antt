-- The last of the rows above a row is the top of its tree.
use Rattle.std.proofs.Common.{◌≡◌, ℕ, List, [], ◌∷◌, map, take, drop, get_or, reverse, Some, None, refl, sym, ap}
use Rattle.slab.specs.Slab.{Slab, get}
use Rattle.xf_def_forest.specs.Visit.{numbers, last_of}
use Rattle.xf_tree_rows.specs.declared.rows.Row.{Row}
use Rattle.xf_tree_rows.specs.Rows.{parent_row_of, top_depth, no_row}
use Rattle.xf_tree_contents.specs.Slot.{Slot}
use Rattle.xf_tree_contents.specs.Keys.{number_in}
use Rattle.xf_tree_walks.specs.Reads.{last_row}
use Rattle.xf_tree_walks.specs.Nodes.{node_of}
use Rattle.xf_tree_walks.specs.Walks.{ancestor_rows}
use Rattle.xf_tree_walks.proofs.WalkLemmas.{climbed-first, climbed-none}

pub last-up : (rows : List Row) (at above : ℕ) (row : Row) → Some above ≡ parent_row_of rows at → last_row row (ancestor_rows rows at) ≡ last_row (get_or rows above no_row) (ancestor_rows rows above)
last-up rows at above row e = ap (last_row row) (climbed-first (top_depth (drop at rows)) above at rows e)

pub last-none : (rows : List Row) (at : ℕ) (row : Row) → None ≡ parent_row_of rows at → row ≡ last_row row (ancestor_rows rows at)
last-none rows at row e = sym (ap (last_row row) (climbed-none (top_depth (drop at rows)) (reverse (take at rows)) e))

pub last-number : (s : Slab Slot) (row : Row) (rows : List Row) → last_of (number_in (get s row.key)) (numbers (map (node_of s) rows)) ≡ number_in (get s (last_row row rows).key)
last-number s row [] = refl
last-number s row (x ∷ xs) = last-number s x xs

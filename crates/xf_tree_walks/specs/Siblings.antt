-- Siblings among which a path counts: elements whose names are written alike, and texts.
use Rattle.std.specs.Prelude.{ℕ, suc, ◌+◌, ◌<◌, ◌==◌, ◌&&◌, nat_lt, Bool, false, List, [], ◌∷◌, length, drop, slice_index_or, Option, Some, None, if◌then◌else◌}
use Rattle.std.specs.Str.{bytes_eq}
use Rattle.slab.specs.Slab.{Slab}
use Rattle.xf_def_forest.specs.declared.content.Node.{Node}
use Rattle.xf_def_forest.specs.declared.content.Content.{Content}
use Rattle.xf_def_forest.specs.declared.content.Content.TheVariants.{Root, Element, Attribute, Text}
use Rattle.xf_def_forest.specs.Forest.{is_element, is_text, name_in, written, written_in}
use Rattle.xf_def_forest.specs.Path.{bracketed}
use Rattle.xf_tree_rows.specs.declared.rows.Row.{Row}
use Rattle.xf_tree_rows.specs.Rows.{tree_of, no_row}
use Rattle.xf_tree_contents.specs.Slot.{Slot}
use Rattle.xf_tree_walks.specs.Walks.{between, chosen, ancestor_rows}

-- the second is counted with the first
abbrev pub same_sort : Content → Content → Bool
same_sort (Element name) other = is_element other && bytes_eq (written name) (written_in (name_in other))
same_sort (Text text) other = is_text other
same_sort Root other = false
same_sort (Attribute name text) other = false

-- a node of this depth that is counted with a content
abbrev pub is_like : ℕ → Content → Node → Bool
is_like depth like y = (y.depth == depth) && same_sort like y.content

abbrev pub index_text : Option ℕ → List ℕ
index_text None = []
index_text (Some k) = bracketed k

-- the siblings before the node at a place that are counted with a content, where its parent's row is known, and those after it
abbrev pub like_before : Slab Slot → List Row → Content → ℕ → Option ℕ → List ℕ
like_before s rows like at None = []
like_before s rows like at (Some above) = chosen s (is_like (slice_index_or rows at no_row).depth like) (between (above + 1) at rows)

abbrev pub like_after : Slab Slot → List Row → Content → ℕ → Option ℕ → List ℕ
like_after s rows like at None = []
like_after s rows like at (Some above) =
    chosen s (is_like (slice_index_or rows at no_row).depth like) (between (at + 1) (above + length (tree_of (drop above rows))) rows)

-- the place of a node among those before and after it, from 1, where there are any
abbrev pub index_among : List ℕ → List ℕ → Option ℕ
index_among earlier later = if nat_lt 0 (length earlier + length later) then Some (suc (length earlier)) else None

-- a row and those above it, the nearest first
abbrev pub rows_up : List Row → Option ℕ → List Row
rows_up rows None = []
rows_up rows (Some at) = slice_index_or rows at no_row ∷ ancestor_rows rows at

abbrev pub AllPlaces : List Row → List ℕ → Type 0
AllPlaces rows [] = Unit {0}
AllPlaces rows (p ∷ ps) = (p < length rows) × AllPlaces rows ps

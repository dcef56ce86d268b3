-- What stands right below a row: the rows of its tree that are one deeper.
use Rattle.std.specs.Prelude.{ℕ, suc, ◌+◌, ◌==◌, ◌&&◌, not, Bool, List, map, take, drop, slice_index_or, count_by}
use Rattle.slab.specs.Slab.{Slab}
use Rattle.xf_def_forest.specs.declared.content.Node.{Node}
use Rattle.xf_def_forest.specs.declared.content.Content.{Content}
use Rattle.xf_def_forest.specs.Forest.{is_attribute, name_in}
use Rattle.xf_def_forest.specs.Plant.{is_less, written_of}
use Rattle.xf_def_forest.specs.WellFormed.{have_same_name}
use Rattle.xf_tree_rows.specs.declared.rows.Row.{Row}
use Rattle.xf_tree_rows.specs.Rows.{deeper, no_row}
use Rattle.xf_tree_contents.specs.Slot.{Slot}
use Rattle.xf_tree_walks.specs.Nodes.{node_of}

-- a child is no attribute
abbrev pub is_no_attribute : Content → Bool
is_no_attribute c = not (is_attribute c)

-- an attribute with the name of this content
abbrev pub is_attribute_like : Content → Content → Bool
is_attribute_like like c = is_attribute c && have_same_name (name_in c) (name_in like)

-- an attribute with a written name that is less than that of this content
abbrev pub is_lesser_attribute : Content → Content → Bool
is_lesser_attribute content c = is_attribute c && is_less (written_of c) (written_of content)

-- a node of this depth whose content meets a test
abbrev pub is_kid : (Content → Bool) → ℕ → Node → Bool
is_kid test depth y = (y.depth == depth) && test y.content

-- how many of these rows are of such nodes
abbrev pub kids_in : (Content → Bool) → Slab Slot → ℕ → List Row → ℕ
kids_in test s depth rows = count_by (is_kid test depth) (map (node_of s) rows)

-- how many nodes right below the row at a place have contents that meet a test
abbrev pub kids_at : (Content → Bool) → Slab Slot → List Row → ℕ → ℕ
kids_at test s rows above =
    let depth = (slice_index_or rows above no_row).depth in
    let later = drop (above + 1) rows in
    kids_in test s (suc depth) (take (deeper depth later) later)

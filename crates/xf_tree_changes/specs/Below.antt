-- Where a tree goes below a parent, and how many elements it is below then.
use Rattle.std.specs.Prelude.{ℕ, suc, ◌≡◌, ◌+◌, ◌<◌, ◌==◌, ◌&&◌, ◌||◌, cond, nat_lt, slice_index_or, List, [], ◌∷◌, ◌++◌, map, take, drop, reverse, length, if◌then◌else◌}
use Rattle.slab.specs.Slab.{Slab, get}
use Rattle.xf_def_forest.specs.declared.content.Node.{Node}
use Rattle.xf_def_forest.specs.declared.content.Content.{Content}
use Rattle.xf_def_forest.specs.Changes.{at_place}
use Rattle.xf_def_forest.specs.Forest.{is_attribute, is_element}
use Rattle.xf_tree_rows.specs.declared.rows.Row.{Row}
use Rattle.xf_tree_rows.specs.Rows.{tree_of, rest_of, deepened, grown, no_row}
use Rattle.xf_tree_contents.specs.Slot.{Slot}
use Rattle.xf_tree_contents.specs.Keys.{content_in}
use Rattle.xf_tree_walks.specs.Nodes.{node_of}

-- among the nodes after a parent, whose children have this depth, where the child with a place stands, or where they end
abbrev pub child_at : ℕ → ℕ → List Node → ℕ
child_at depth place [] = 0
child_at depth place (y ∷ ys) =
    if nat_lt y.depth depth then 0
    else if nat_lt depth y.depth || is_attribute y.content then suc (child_at depth place ys)
    else at_place place 0 (λ left. suc (child_at depth left ys))

-- among the nodes after an element, whose attributes have this depth, where the attribute with a place stands, or where they end
abbrev pub attribute_at : ℕ → ℕ → List Node → ℕ
attribute_at depth place [] = 0
attribute_at depth place (y ∷ ys) = if (y.depth == depth) && is_attribute y.content then at_place place 0 (λ left. suc (attribute_at depth left ys)) else 0

-- where a node with this content goes
abbrev pub part_at : ℕ → ℕ → Content → List Node → ℕ
part_at depth place content nodes = if is_attribute content then attribute_at depth place nodes else child_at depth place nodes

-- the row where a node with this content goes below the node at a place
abbrev pub row_below : Slab Slot → List Row → ℕ → Content → ℕ → ℕ
row_below s rows above content place =
    above + 1 + part_at ((slice_index_or rows above no_row).depth + 1) place content (map (node_of s) (drop (above + 1) rows))

-- how many elements are open for a node of this depth, going back over the rows before it, the nearest first
abbrev pub elements_open : Slab Slot → ℕ → List Row → ℕ
elements_open s depth [] = 0
elements_open s depth (y ∷ ys) =
    if nat_lt y.depth depth then cond (is_element (content_in (get s y.key))) 1 0 + elements_open s y.depth ys else elements_open s depth ys

-- how many elements a child of the node at a place is below
abbrev pub elements_over : Slab Slot → List Row → ℕ → ℕ
elements_over s rows above = elements_open s ((slice_index_or rows above no_row).depth + 1) (reverse (take (above + 1) rows))

-- a tree and a row outside it stand so that the row is before the tree, and the other rows are as they were
pub record IsBehind (at above from over : ℕ) (old new : List Row) : Type 0 where
  pub order : over < from
  pub within : from < length new
  pub count : length new ≡ length old
  pub rest : rest_of from new ≡ rest_of at old
  pub tree : tree_of (drop from new) ≡ tree_of (drop at old)
  pub row : slice_index_or new over no_row ≡ slice_index_or old above no_row

-- the new rows are the old ones with the tree at a place moved below the row at another one
pub record IsPlaced (at above place : ℕ) (s : Slab Slot) (old new : List Row) : Type 0 where
  -- where that row stands among those that do not move
  pub over : ℕ
  pub within : over < length (rest_of at old)
  pub row : slice_index_or (rest_of at old) over no_row ≡ slice_index_or old above no_row
  pub rows : let rest = rest_of at old in
      let tree = tree_of (drop at old) in
      let depth = (slice_index_or old above no_row).depth + 1 in
      let to = row_below s rest over (content_in (get s (slice_index_or old at no_row).key)) place in
      new ≡ grown (length tree) depth (reverse (take to rest)) (map (deepened depth) tree ++ drop to rest)

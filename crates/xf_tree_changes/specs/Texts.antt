-- What setting a text means for rows, slots and kept texts.
use Rattle.std.specs.Prelude.{ℕ, ◌≡◌, ◌+◌, ◌-◌, ◌==◌, Bool, not, List, [], ◌∷◌, ◌++◌, map, filter, take, drop, nat_lt, Option, Some, None, option_map, slice_index_or, slice_set, if◌then◌else◌}
use Rattle.std.specs.List.{list_any}
use Rattle.slab.specs.Slab.{Slab, get}
use Rattle.xf_def_forest.specs.declared.node.NodeId.{NodeId}
use Rattle.xf_def_forest.specs.declared.content.Content.TheVariants.{Text}
use Rattle.xf_def_forest.specs.declared.fault.TreeFault.{TreeFault}
use Rattle.xf_def_forest.specs.declared.fault.TreeFault.TheVariants.{Nodes, NodeText, AllText}
use Rattle.xf_def_forest.specs.Forest.{is_attribute}
use Rattle.xf_def_forest.specs.Visit.{has}
use Rattle.xf_tree_rows.specs.declared.rows.Row.{Row}
use Rattle.xf_tree_rows.specs.Rows.{grown, shrunk, deeper, no_row}
use Rattle.xf_tree_contents.specs.Slot.{Slot}
use Rattle.xf_tree_contents.specs.Keys.{number_in, content_in}
use Rattle.xf_tree_contents.specs.Slots.{owned_slot}

-- ---- limits

-- the limit that is passed by so many nodes, a text of so many bytes, and so many bytes together
abbrev pub passed_by : ℕ → ℕ → ℕ → Option TreeFault
passed_by count text bytes =
    if nat_lt 65536 count then Some Nodes
    else if nat_lt 65536 text then Some NodeText
    else if nat_lt 4194304 bytes then Some AllText
    else None

-- a text makes a node where it is not empty
abbrev pub text_count : List ℕ → ℕ
text_count [] = 0
text_count (c ∷ cs) = 1

-- the slot of a new text, where it is not empty
abbrev pub text_slot : ℕ → List ℕ → Option Slot
text_slot number [] = None
text_slot number (c ∷ cs) = Some (record { number = number; owner = 0; content = Text (c ∷ cs) })

abbrev pub has_key : ℕ → List ℕ → Bool
has_key key keys = list_any (λ k. k == key) keys

abbrev pub owned_where : Bool → ℕ → Option Slot → Option Slot
owned_where b owner slot = if b then option_map (owned_slot owner) slot else slot

-- the slots under these keys have this owner, and are else what they were
abbrev pub IsOwned : ℕ → List ℕ → Slab Slot → Slab Slot → Type 0
IsOwned owner keys s s2 = (key : ℕ) → get s2 key ≡ owned_where (has_key key keys) owner (get s key)

-- ---- rows

abbrev pub is_attribute_row : Slab Slot → Row → Bool
is_attribute_row s r = is_attribute (content_in (get s r.key))

abbrev pub is_child_row : Slab Slot → Row → Bool
is_child_row s r = not (is_attribute (content_in (get s r.key)))

abbrev pub attributes : Slab Slot → List Row → List Row
attributes s rows = filter (is_attribute_row s) rows

-- those that are of no attribute
abbrev pub children : Slab Slot → List Row → List Row
children s rows = filter (is_child_row s) rows

abbrev pub keys_of : List Row → List ℕ
keys_of rows = map (λ r. r.key) rows

abbrev pub numbers_at : Slab Slot → List Row → List ℕ
numbers_at s rows = map (λ r. number_in (get s r.key)) rows

abbrev pub numbers_in : List NodeId → List ℕ
numbers_in texts = map (λ n. n.number) texts

-- the row of a text
abbrev pub text_row : ℕ → NodeId → Row
text_row depth text = record { key = text.place; size = 1; depth = depth }

-- ---- the list of kept texts

-- the key of a kept text with one of these numbers
abbrev pub is_wanted : Slab Slot → List ℕ → ℕ → Bool
is_wanted s ns key = has (number_in (get s key)) ns

abbrev pub is_left : Slab Slot → List ℕ → ℕ → Bool
is_left s ns key = not (has (number_in (get s key)) ns)

abbrev pub places_of : List NodeId → List ℕ
places_of texts = map (λ n. n.place) texts

-- ---- what is below a row

abbrev pub depth_at : ℕ → List Row → ℕ
depth_at at rows = (slice_index_or rows at no_row).depth

-- the rows below the row at a place, and those behind them
abbrev pub run_of : ℕ → List Row → List Row
run_of at rows = take (deeper (depth_at at rows) (drop (at + 1) rows)) (drop (at + 1) rows)

abbrev pub after_run : ℕ → List Row → List Row
after_run at rows = drop (deeper (depth_at at rows) (drop (at + 1) rows)) (drop (at + 1) rows)

abbrev pub AreAt : ℕ → List Row → Type 0
AreAt d [] = Unit {0}
AreAt d (x ∷ xs) = (x.depth ≡ d) × AreAt d xs

-- the rows with these texts in place of all below the row at a place that is no attribute
abbrev pub with_text_rows : Slab Slot → ℕ → List NodeId → List Row → List Row
with_text_rows s at texts rows =
    take (at + 1) rows ++ (attributes s (run_of at rows) ++ (map (text_row (depth_at at rows + 1)) texts ++ after_run at rows))

-- the rows before a place, the nearest first, put back in front of what stands from there on, where there are now so many rows
-- of this depth instead of as many as there were
abbrev pub settled : ℕ → ℕ → ℕ → List Row → List Row → List Row
settled had now depth ys tail = if nat_lt had now then grown (now - had) depth ys tail else shrunk (had - now) depth ys tail

abbrev pub no_text : NodeId
no_text = record { number = 0; place = 0 }

-- the texts with the one from the first place at the second, with this key, and the one from there at the first
abbrev pub moved_text : ℕ → ℕ → ℕ → List NodeId → List NodeId
moved_text from to key texts =
    slice_set (slice_set texts from (slice_index_or texts to no_text)) to (record { number = (slice_index_or texts from no_text).number; place = key })

-- the numbers under these keys
abbrev pub numbers_of : Slab Slot → List ℕ → List ℕ
numbers_of s keys = map (λ k. number_in (get s k)) keys

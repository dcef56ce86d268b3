-- What a text in place of an element's texts makes of rows, slots and kept texts.
use Rattle.std.specs.Prelude.{ℕ, ◌≡◌, ◌+◌, ◌≤◌, ◌<◌, ◌^◌, List, [], ◌∷◌, ◌++◌, map, take, length, None}
use Rattle.slab.specs.Slab.{Slab, get, Updates}
use Rattle.xf_tree_rows.specs.declared.rows.Row.{Row}
use Rattle.xf_tree_rows.specs.Rows.{Sized}
use Rattle.xf_tree_contents.specs.Slot.{Slot}
use Rattle.xf_tree_changes.specs.Trees.{unsized}
use Rattle.xf_tree_changes.specs.Texts.{text_slot, text_count, children, keys_of, numbers_at, run_of, with_text_rows, IsOwned}

-- the text comes into a slot that is free where room was made, then the texts that were there get their owner
pub record IsSwapped (s s3 : Slab Slot) (rows new : List Row) (kept kept2 had : List ℕ) (n at number : ℕ) (text : List ℕ) (room : ℕ) : Type 0 where
  pub made : Slab Slot
  pub added : Slab Slot
  pub place : ℕ
  pub same : (key : ℕ) → get made key ≡ get s key
  pub vacant : get made place ≡ None
  pub slot : Updates made added place (text_slot number text)
  pub owned : IsOwned n (keys_of (children added (run_of at rows))) added s3
  pub rows_are : map unsized new ≡ map unsized (with_text_rows s3 at (take (text_count text) (record { number = number; place = place } ∷ [])) rows)
  pub kept_are : kept2 ≡ kept ++ keys_of (children added (run_of at rows))
  pub had_are : had ≡ numbers_at added (children added (run_of at rows))
  pub sized : Sized new
  pub few : length rows + length kept + 1 < 2 ^ 31
  pub spare : length rows + (length kept + 1) ≤ room

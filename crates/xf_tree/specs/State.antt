-- The forest and the kept texts that rows and slots stand for, and the invariant that each call keeps.
use Rattle.std.specs.Prelude.{ℕ, ◌≡◌, ◌+◌, ◌≤◌, ◌<◌, ◌^◌, length, true, List, [], ◌∷◌, map}
use Rattle.slab.specs.Slab.{Slab, get}
use Rattle.xf_def_forest.specs.Forest.{is_text}
use Rattle.xf_def_forest.specs.Limits.{node_count, all_size, size_of}
use Rattle.xf_def_forest.specs.Texts.{Keeping}
use Rattle.xf_tree_rows.specs.declared.rows.Row.{Row}
use Rattle.xf_tree_rows.specs.Rows.{Sized, AreSteps, depths}
use Rattle.xf_tree_contents.specs.Slot.{Slot}
use Rattle.xf_tree_contents.specs.Keys.{kept_of, content_in, kept_times}
use Rattle.xf_tree_walks.specs.Leaves.{AreLeaves, parts_in}
use Rattle.xf_tree_walks.specs.First.{AreFirst}
use Rattle.xf_tree_walks.specs.Nodes.{node_of, AllLive, AllTops, times}

-- the forest, and the texts kept beside it
abbrev pub keeping_of : Slab Slot → List Row → List ℕ → ℕ → Keeping
keeping_of slots rows kept next = record { forest = record { nodes = map (node_of slots) rows; next = next }; kept = map (kept_of slots) kept }

-- each of these keys has a text
abbrev pub AllKept : Slab Slot → List ℕ → Type 0
AllKept slots [] = Unit {0}
AllKept slots (k ∷ ks) = (is_text (content_in (get slots k)) ≡ true) × AllKept slots ks

pub record IsSound (slots : Slab Slot) (rows : List Row) (kept : List ℕ) (next : ℕ) : Type 0 where
  pub sized : Sized rows
  pub steps : AreSteps 0 (depths rows)
  pub few : length rows + length kept < 2 ^ 31
  pub live : AllLive slots rows
  pub kept_live : AllKept slots kept
  pub tops : AllTops (map (node_of slots) rows)
  pub leaves : AreLeaves (parts_in (map (node_of slots) rows))
  pub first : AreFirst 0 (parts_in (map (node_of slots) rows))
  pub apart : (n : ℕ) → times n (map (node_of slots) rows) + kept_times n (map (kept_of slots) kept) ≤ 1
  pub fresh : (n : ℕ) → next ≤ n → times n (map (node_of slots) rows) + kept_times n (map (kept_of slots) kept) ≡ 0

-- the running counts, and a bound of what one slot adds to them
pub record IsCounted (slots : Slab Slot) (rows : List Row) (total size : ℕ) : Type 0 where
  pub count : total ≡ node_count (map (node_of slots) rows)
  pub bytes : size ≡ all_size (map (node_of slots) rows)
  pub small : (key : ℕ) → size_of (content_in (get slots key)) ≤ 2 ^ 66

-- besides, the rows have room for the kept texts, so that these can come back without memory
pub record IsState (slots : Slab Slot) (rows : List Row) (kept : List ℕ) (next total size spare : ℕ) : Type 0 where
  pub sound : IsSound slots rows kept next
  pub counted : IsCounted slots rows total size
  pub room : length rows + length kept ≤ spare

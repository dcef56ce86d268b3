-- The bytes of a slot in memory, and what its calls do to them.
use Rattle.std.specs.Prelude.{◌≡◌, ℕ, ◌+◌, List, true, false, length, take, min, max, replicate, Option}
use Rattle.xf_disk.specs.declared.cells.Cells.{Cells}
use Rattle.xf_disk.specs.Marks.{MayHold, spliced, filled}

-- the bytes that stand
abbrev pub held_by : Cells → List ℕ
held_by cells = take cells.len cells.bytes.items

abbrev pub CellsMayHold : Cells → List ℕ → Type 0
CellsMayHold cells = MayHold cells.written.items cells.bytes.items cells.len cells.synced

-- the cells after a write
pub record IsWritten (at : ℕ) (put : List ℕ) (old new : Cells) : Type 0 where
  pub bytes : new.bytes.items ≡ spliced at put old.bytes.items
  pub written : new.written.items ≡ spliced at (replicate (length put) true) old.written.items
  pub len : new.len ≡ max old.len (at + length put)
  pub synced : new.synced ≡ old.synced
  pub room : length new.bytes.items ≡ length old.bytes.items

-- the cells after a sync: no byte is written since
pub record IsSynced (old new : Cells) : Type 0 where
  pub bytes : new.bytes.items ≡ old.bytes.items
  pub written : new.written.items ≡ replicate (length old.written.items) false
  pub len : new.len ≡ old.len
  pub synced : new.synced ≡ old.len

-- what stands after a crash that let the slot grow by so many bytes since the last sync, and no more than it grew
abbrev pub after_crash_of : Option ℕ → ℕ → Cells → List ℕ
after_crash_of fill grown cells = take (min (cells.synced + grown) cells.len) (filled fill cells.written.items cells.bytes.items)

-- no byte was written since the last sync
pub record IsAtRest (cells : Cells) : Type 0 where
  pub written : cells.written.items ≡ replicate (length cells.written.items) false
  pub synced : cells.synced ≡ cells.len

-- a slot that holds these bytes, all of them synced
pub record Rests (bytes : List ℕ) (cells : Cells) : Type 0 where
  pub held : held_by cells ≡ bytes
  pub rest : IsAtRest cells

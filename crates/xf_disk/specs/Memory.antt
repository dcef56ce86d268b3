-- What a disk in memory shows, and what a crash may leave of it.
use Rattle.std.specs.Prelude.{◌≡◌, ◌≤◌, ◌⊎◌, ℕ, ◌-◌, ◌+◌, List, [], ◌∷◌, ◌++◌, length, drop, Option, Bool, ◌&&◌, nat_lt, nat_le, if◌then◌else◌, Result, is_ok}
use Rattle.std.specs.declared.snapshot.Snapshot.{Snapshot}
use Rattle.xf_disk.specs.declared.slot.Slot.{Slot}
use Rattle.xf_disk.specs.declared.slot.Slot.TheVariants.{A, B}
use Rattle.xf_disk.specs.declared.cells.Cells.{Cells}
use Rattle.xf_disk.specs.declared.slots.Slots.{Slots}
use Rattle.xf_disk.specs.Image.{Image, beside}
use Rattle.xf_disk.specs.declared.memory.MemoryDisk.{MemoryDisk}
use Rattle.xf_disk.specs.declared.memory.Call.{Call}
use Rattle.xf_disk.specs.Cells.{held_by, CellsMayHold, after_crash_of, Rests}

abbrev pub cells_in : Slot → Slots → Cells
cells_in A slots = slots.a
cells_in B slots = slots.b

abbrev pub image_of : Slots → Image
image_of slots = record { a = held_by slots.a; b = held_by slots.b }

-- one slot goes a step, and the one beside it stays
pub record CellsStep (slot : Slot) (step : Cells → Cells → Type 0) (old new : Slots) : Type 0 where
  pub this : step (cells_in slot old) (cells_in slot new)
  pub rest : cells_in (beside slot) new ≡ cells_in (beside slot) old

-- what a crash may leave
pub record MayLeave (slots : Slots) (image : Image) : Type 0 where
  pub a : CellsMayHold slots.a image.a
  pub b : CellsMayHold slots.b image.b

-- a crash at one of these moments might have left it
abbrev pub MightHaveLeft : List (Snapshot Slots) → Image → Type 0
MightHaveLeft [] image = ⊥
MightHaveLeft (slots ∷ past) image = MayLeave slots.value image ⊎ MightHaveLeft past image

-- a crash now, or at one of the moments from this one on
abbrev pub LeftSince : Slots → List (Snapshot Slots) → ℕ → Image → Type 0
LeftSince slots past t image = MayLeave slots image ⊎ MightHaveLeft (drop t past) image

abbrev pub after_crash_image : Option ℕ → ℕ → Slots → Image
after_crash_image fill grown slots = record { a = after_crash_of fill grown slots.a; b = after_crash_of fill grown slots.b }

-- a disk that holds this image, all of it synced
pub record DiskRests (image : Image) (disk : MemoryDisk) : Type 0 where
  pub a : Rests image.a disk.slots.a
  pub b : Rests image.b disk.slots.b

abbrev pub seen_by : MemoryDisk → Image
seen_by disk = image_of disk.slots

abbrev pub DiskMayLeave : MemoryDisk → Image → Type 0
DiskMayLeave disk = MayLeave disk.slots

-- each slot has room for so many bytes in all, and the list for so many calls more
pub record HasRoom (room calls : ℕ) (disk : MemoryDisk) : Type 0 where
  pub a : room ≤ length disk.slots.a.bytes.items
  pub b : room ≤ length disk.slots.b.bytes.items
  pub listed : disk.calls_left ≡ calls
  pub none_made : disk.calls.items ≡ []

-- the room of each slot is the same
pub record SameRooms (old new : Slots) : Type 0 where
  pub a : length new.a.bytes.items ≡ length old.a.bytes.items
  pub b : length new.b.bytes.items ≡ length old.b.bytes.items

-- a write of so many bytes at this offset has room in the slot
abbrev pub fits : Slot → ℕ → ℕ → MemoryDisk → Bool
fits slot at count disk = nat_le (at + count) (length (cells_in slot disk.slots).bytes.items)

-- a call is listed where the list has room for it; it fails exactly where the list has none, or where it does not fit
pub record Makes {T E : Type 0} (call : Call) (fits : Bool) (old new : MemoryDisk) (result : Result T E) : Type 0 where
  pub answer : is_ok result ≡ (nat_lt 0 old.calls_left && fits)
  pub listed : new.calls.items ≡ (if nat_lt 0 old.calls_left then old.calls.items ++ call ∷ [] else old.calls.items)
  pub left : new.calls_left ≡ old.calls_left - 1
  pub rooms : SameRooms old.slots new.slots

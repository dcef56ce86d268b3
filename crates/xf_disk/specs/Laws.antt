-- The laws of the disk in memory.
use Rattle.std.specs.Prelude.{ℕ, List, length, drop, take}
use Rattle.std.proofs.Common.{zero, suc, inl, inr, ◌≡◌, ◌≤◌, [], ◌∷◌, Bool, true, false, refl, arith, length-take}
use Rattle.std.specs.declared.snapshot.Snapshot.{Snapshot}
use Rattle.xf_disk.specs.declared.cells.Cells.{Cells}
use Rattle.xf_disk.specs.declared.slots.Slots.{Slots}
use Rattle.xf_disk.specs.Image.{Image}
use Rattle.xf_disk.specs.Marks.{Stays, Agrees}
use Rattle.xf_disk.specs.Cells.{CellsMayHold, held_by}
use Rattle.xf_disk.specs.Memory.{MayLeave, MightHaveLeft, LeftSince, image_of}

none_left : (past : List (Snapshot Slots)) (image : Image) → MightHaveLeft (drop (length past) past) image → ⊥
none_left [] image left = left
none_left (slots ∷ past) image left = none_left past image left

-- since the present moment there is no other
pub only_present : (slots : Slots) (past : List (Snapshot Slots)) (image : Image) → LeftSince slots past (length past) image → MayLeave slots image
only_present slots past image (inl now) = now
only_present slots past image (inr left) = absurd (none_left past image left)

pub stays_same : (w : Bool) (byte : ℕ) → Stays w byte byte
stays_same true byte = tt
stays_same false byte = refl

-- the bytes themselves are among what may be left
pub agrees_same : (written : List Bool) (bytes : List ℕ) (n : ℕ) → n ≤ length bytes → length written ≡ length bytes → Agrees written bytes (take n bytes)
agrees_same written bytes zero le same = tt
agrees_same written [] (suc n) le same = tt
agrees_same [] (byte ∷ bytes) (suc n) le same = absurd (omega arith)
agrees_same (w ∷ written) (byte ∷ bytes) (suc n) le same = (stays_same w byte, agrees_same written bytes n (omega arith) (omega arith))

may_hold_same : (cells : Cells) → CellsMayHold cells (held_by cells)
may_hold_same cells = record {
  no_shorter = omega (arith, length-take cells.len cells.bytes.items, cells.within, cells.grown);
  no_longer = omega (arith, length-take cells.len cells.bytes.items);
  agrees = agrees_same cells.written.items cells.bytes.items cells.len (omega (arith, cells.within)) (omega (arith, cells.alike));
}

pub seen_may_be_left : (slots : Slots) → MayLeave slots (image_of slots)
seen_may_be_left slots = record { a = may_hold_same slots.a; b = may_hold_same slots.b }

-- a disk that tells nothing owes nothing of what it tells
pub untold : {X : Type 0} → false ≡ true → X
untold told = cc

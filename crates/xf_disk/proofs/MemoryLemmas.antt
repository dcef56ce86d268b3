-- What the calls of a disk in memory do to what a read gives and to what a crash may leave.
use Rattle.std.proofs.Common.{◌≡◌, ◌≤◌, ◌⊎◌, inl, inr, ⊎_elim, ℕ, zero, suc, ◌+◌, min, List, [], ◌∷◌, ◌++◌, Bool, true, false, length, take, drop, replicate, refl, sym, ◌∙◌, ap, subst, arith, length-append}
use Rattle.std.proofs.lemmas.List.{length-take}
use Rattle.std.specs.declared.snapshot.Snapshot.{Snapshot}
use Rattle.xf_disk.specs.declared.slot.Slot.{Slot}
use Rattle.xf_disk.specs.declared.slot.Slot.TheVariants.{A, B}
use Rattle.xf_disk.specs.declared.cells.Cells.{Cells}
use Rattle.std.specs.Prelude.{Option, Result, Ok, Err, IfOk}
use Rattle.std.specs.declared.alloc.AllocError.{AllocError}
use Rattle.xf_disk.specs.declared.memory.MemoryDisk.{MemoryDisk}
use Rattle.xf_disk.specs.declared.slots.Slots.{Slots}
use Rattle.xf_disk.specs.Image.{Image, in_slot}
use Rattle.xf_disk.specs.Crash.{Torn, InSlot, Follows, LeavesNoMore, LeavesAll, Elapses}
use Rattle.xf_disk.specs.Marks.{Agrees, spliced, filled}
use Rattle.xf_disk.specs.Cells.{CellsMayHold, held_by, after_crash_of, IsWritten, IsSynced, Rests}
use Rattle.xf_disk.specs.Memory.{cells_in, image_of, CellsStep, MayLeave, MightHaveLeft, LeftSince, DiskRests, DiskMayLeave, seen_by, after_crash_image}
use Rattle.xf_disk.specs.Laws.{agrees_same}
use Rattle.xf_disk.proofs.TornLemmas.{torn_spliced}
use Rattle.xf_disk.proofs.CellsLemmas.{agrees_more, restored, agrees_unwritten, held_spliced, length-filled, agrees_filled}

-- one slot, after a write
module _ (at : ℕ) (put : List ℕ) (old new : Cells) (is : IsWritten at put old new) (start : at ≤ old.len) (room : at + length put ≤ length old.bytes.items) where
  cells_seen : held_by new ≡ spliced at put (held_by old)
  cells_seen =
      ap (λ (l : List ℕ). take new.len l) is.bytes ∙ ap (λ (k : ℕ). take k (spliced at put old.bytes.items)) is.len
      ∙ held_spliced at old.len put old.bytes.items start (omega (arith, old.within)) room

  cells_torn : Torn at (length put) (held_by old) (held_by new)
  cells_torn =
      subst (Torn at (length put) (held_by old)) (sym cells_seen) (torn_spliced at put (held_by old) (omega (arith, length-take old.len old.bytes.items, old.within)))

  cells_crash : (image : List ℕ) → CellsMayHold new image → (was : List ℕ) × CellsMayHold old was × Torn at (length put) was image
  cells_crash image left =
      let agrees : Agrees (spliced at (replicate (length put) true) old.written.items) (spliced at put old.bytes.items) image =
      subst (λ (w : List Bool). Agrees w (spliced at put old.bytes.items) image) is.written (subst (λ (b : List ℕ). Agrees new.written.items b image) is.bytes left.agrees) in
      let from = restored at (length put) old.len put old.written.items old.bytes.items image refl start (omega (arith, old.within)) (omega (arith, old.alike)) room (omega (arith, left.no_longer, is.len)) agrees in (
        from.was,
        record {
          no_shorter = omega (arith, from.no_shorter, left.no_shorter, is.synced, old.grown);
          no_longer = from.no_longer;
          agrees = from.agrees;
        },
        from.torn,
      )

  cells_more : (image : List ℕ) → CellsMayHold old image → CellsMayHold new image
  cells_more image left =
      let agrees = agrees_more at (length put) put old.written.items old.bytes.items image refl left.agrees in
      record {
        no_shorter = omega (arith, left.no_shorter, is.synced);
        no_longer = omega (arith, left.no_longer, is.len);
        agrees = subst (λ (w : List Bool). Agrees w new.bytes.items image) (sym is.written) (subst (λ (b : List ℕ). Agrees (spliced at (replicate (length put) true) old.written.items) b image) (sym is.bytes) agrees);
      }

-- a write begins among the bytes that stand
pub start_within : (slot : Slot) (slots : Slots) (at : ℕ) → at ≤ length (in_slot slot (image_of slots)) → at ≤ (cells_in slot slots).len
start_within A slots at le = omega (arith, le, length-take slots.a.len slots.a.bytes.items)
start_within B slots at le = omega (arith, le, length-take slots.b.len slots.b.bytes.items)

-- both slots, after a write
pub write_seen : (slot : Slot) (at : ℕ) (put : List ℕ) (old new : Slots) → CellsStep slot (IsWritten at put) old new → at ≤ (cells_in slot old).len → at + length put ≤ length (cells_in slot old).bytes.items → in_slot slot (image_of new) ≡ spliced at put (in_slot slot (image_of old))
write_seen A at put old new step start room = cells_seen at put old.a new.a step.this start room
write_seen B at put old new step start room = cells_seen at put old.b new.b step.this start room

pub write_torn : (slot : Slot) (at : ℕ) (put : List ℕ) (old new : Slots) → CellsStep slot (IsWritten at put) old new → at ≤ (cells_in slot old).len → at + length put ≤ length (cells_in slot old).bytes.items → InSlot slot (Torn at (length put)) (image_of old) (image_of new)
write_torn A at put old new step start room = record { this = cells_torn at put old.a new.a step.this start room; rest = ap held_by step.rest }
write_torn B at put old new step start room = record { this = cells_torn at put old.b new.b step.this start room; rest = ap held_by step.rest }

pub write_crash : (slot : Slot) (at : ℕ) (put : List ℕ) (old new : Slots) → CellsStep slot (IsWritten at put) old new → at ≤ (cells_in slot old).len → at + length put ≤ length (cells_in slot old).bytes.items → Follows (InSlot slot (Torn at (length put))) (MayLeave old) (MayLeave new)
write_crash A at put old new step start room image left =
    let from = cells_crash at put old.a new.a step.this start room image.a left.a in (
      record { a = from.0; b = image.b },
      record { a = from.1; b = subst (λ c. CellsMayHold c image.b) step.rest left.b },
      record { this = from.2; rest = refl },
    )
write_crash B at put old new step start room image left =
    let from = cells_crash at put old.b new.b step.this start room image.b left.b in (
      record { a = image.a; b = from.0 },
      record { a = subst (λ c. CellsMayHold c image.a) step.rest left.a; b = from.1 },
      record { this = from.2; rest = refl },
    )

write_more : (slot : Slot) (at : ℕ) (put : List ℕ) (old new : Slots) → CellsStep slot (IsWritten at put) old new → at ≤ (cells_in slot old).len → at + length put ≤ length (cells_in slot old).bytes.items → (image : Image) → MayLeave old image → MayLeave new image
write_more A at put old new step start room image left =
    record { a = cells_more at put old.a new.a step.this start room image.a left.a; b = subst (λ c. CellsMayHold c image.b) (sym step.rest) left.b }
write_more B at put old new step start room image left =
    record { a = subst (λ c. CellsMayHold c image.a) (sym step.rest) left.a; b = cells_more at put old.b new.b step.this start room image.b left.b }

pub write_time : (slot : Slot) (at : ℕ) (put : List ℕ) (old new : Slots) (past : List (Snapshot Slots)) → CellsStep slot (IsWritten at put) old new → at ≤ (cells_in slot old).len → at + length put ≤ length (cells_in slot old).bytes.items → Elapses (length past) (length past) (LeftSince old past) (LeftSince new past) (MayLeave new)
write_time slot at put old new past step start room = record {
  later = omega arith;
  nothing_else = λ t image le left. ⊎_elim (λ now. inr now) (λ had. inl (inr had)) left;
  keeps = λ t image le left. ⊎_elim (λ now. inl (write_more slot at put old new step start room image now)) (λ had. inr had) left;
}

-- after a sync
module _ (old new : Cells) (is : IsSynced old new) where
  cells_durable : (image : List ℕ) → CellsMayHold new image → image ≡ held_by old
  cells_durable image left =
      let agrees : Agrees (replicate (length old.written.items) false) old.bytes.items image =
      subst (λ (w : List Bool). Agrees w old.bytes.items image) is.written (subst (λ (b : List ℕ). Agrees new.written.items b image) is.bytes left.agrees) in
      let size : length image ≡ old.len = omega (arith, left.no_shorter, left.no_longer, is.len, is.synced) in
      agrees_unwritten (length old.written.items) old.bytes.items image agrees ∙ ap (λ (k : ℕ). take k old.bytes.items) size

  cells_held : held_by new ≡ held_by old
  cells_held = ap (λ (l : List ℕ). take new.len l) is.bytes ∙ ap (λ (k : ℕ). take k old.bytes.items) is.len

  cells_crash_less : (image : List ℕ) → CellsMayHold new image → CellsMayHold old image
  cells_crash_less image left =
      subst (CellsMayHold old) (sym (cells_durable image left)) (record {
        no_shorter = omega (arith, length-take old.len old.bytes.items, old.within, old.grown);
        no_longer = omega (arith, length-take old.len old.bytes.items);
        agrees = agrees_same old.written.items old.bytes.items old.len (omega (arith, old.within)) (omega (arith, old.alike));
      })

pub sync_durable : (slot : Slot) (old new : Slots) → CellsStep slot IsSynced old new → LeavesAll (MayLeave new) (λ image. in_slot slot image ≡ in_slot slot (image_of old))
sync_durable A old new step image left = cells_durable old.a new.a step.this image.a left.a
sync_durable B old new step image left = cells_durable old.b new.b step.this image.b left.b

pub sync_seen : (slot : Slot) (old new : Slots) → CellsStep slot IsSynced old new → image_of new ≡ image_of old
sync_seen A old new step = let this = cells_held old.a new.a step.this in λ i. record { a = this i; b = held_by (step.rest i) }
sync_seen B old new step = let this = cells_held old.b new.b step.this in λ i. record { a = held_by (step.rest i); b = this i }

pub sync_crash : (slot : Slot) (old new : Slots) → CellsStep slot IsSynced old new → LeavesNoMore (MayLeave old) (MayLeave new)
sync_crash A old new step image left =
    record { a = cells_crash_less old.a new.a step.this image.a left.a; b = subst (λ c. CellsMayHold c image.b) step.rest left.b }
sync_crash B old new step image left =
    record { a = subst (λ c. CellsMayHold c image.a) step.rest left.a; b = cells_crash_less old.b new.b step.this image.b left.b }

-- the moments so far, with one more
more_moments : (past : List (Snapshot Slots)) (was : Snapshot Slots) (image : Image) → MightHaveLeft past image → MightHaveLeft (past ++ was ∷ []) image
more_moments [] was image left = absurd left
more_moments (p ∷ past) was image (inl here) = inl here
more_moments (p ∷ past) was image (inr there) = inr (more_moments past was image there)

last_moment : (past : List (Snapshot Slots)) (was : Snapshot Slots) (image : Image) → MayLeave was.value image → MightHaveLeft (past ++ was ∷ []) image
last_moment [] was image left = inl left
last_moment (p ∷ past) was image left = inr (last_moment past was image left)

one_of_them : (past : List (Snapshot Slots)) (was : Snapshot Slots) (image : Image) → MightHaveLeft (past ++ was ∷ []) image → MightHaveLeft past image ⊎ MayLeave was.value image
one_of_them [] was image (inl here) = inr here
one_of_them [] was image (inr none) = absurd none
one_of_them (p ∷ past) was image (inl here) = inl (inl here)
one_of_them (p ∷ past) was image (inr there) = ⊎_elim (λ had. inl (inr had)) (λ here. inr here) (one_of_them past was image there)

drop-push : (t : ℕ) (past : List (Snapshot Slots)) (was : Snapshot Slots) → t ≤ length past → drop t (past ++ was ∷ []) ≡ drop t past ++ was ∷ []
drop-push zero past was le = refl
drop-push (suc t) [] was le = absurd (omega arith)
drop-push (suc t) (p ∷ past) was le = drop-push t past was (omega arith)

pub sync_time : (slot : Slot) (old new : Slots) (past later : List (Snapshot Slots)) (was : Snapshot Slots) → CellsStep slot IsSynced old new → was.value ≡ old → later ≡ past ++ was ∷ [] → Elapses (length past) (length later) (LeftSince old past) (LeftSince new later) (MayLeave new)
sync_time slot old new past later was step is same = record {
  later = omega (arith, ap length same, length-append past (was ∷ []));
  nothing_else = λ t image le left. ⊎_elim (λ now. inr now) (λ had. inl (back t image le had)) left;
  keeps = λ t image le left. inr (subst (λ (l : List (Snapshot Slots)). MightHaveLeft l image) (sym (dropped t le)) (⊎_elim (λ now. last_moment (drop t past) was image (subst (λ s. MayLeave s image) (sym is) now)) (more_moments (drop t past) was image) left));
}
  where
    dropped : (t : ℕ) → t ≤ length past → drop t later ≡ drop t past ++ was ∷ []
    dropped t le = ap (λ (l : List (Snapshot Slots)). drop t l) same ∙ drop-push t past was le

    back : (t : ℕ) (image : Image) → t ≤ length past → MightHaveLeft (drop t later) image → LeftSince old past t image
    back t image le had =
        ⊎_elim (λ before. inr before) (λ here. inl (subst (λ s. MayLeave s image) is here))
        (one_of_them (drop t past) was image (subst (λ (l : List (Snapshot Slots)). MightHaveLeft l image) (dropped t le) had))

-- after a crash
cells_left : (fill : Option ℕ) (grown : ℕ) (cells after : Cells) → Rests (after_crash_of fill grown cells) after → CellsMayHold cells (held_by after)
cells_left fill grown cells after rests =
    let all = filled fill cells.written.items cells.bytes.items in
    let size : length all ≡ length cells.bytes.items = length-filled fill cells.written.items cells.bytes.items (omega (arith, cells.alike)) in
    subst (CellsMayHold cells) (sym rests.held) (record {
      no_shorter = omega (arith, length-take (min (cells.synced + grown) cells.len) all, size, cells.within, cells.grown);
      no_longer = omega (arith, length-take (min (cells.synced + grown) cells.len) all, size);
      agrees = agrees_filled (min (cells.synced + grown) cells.len) fill cells.written.items cells.bytes.items;
    })

pub disk_left : (fill : Option ℕ) (grown : ℕ) (slots : Slots) (disk : MemoryDisk) → DiskRests (after_crash_image fill grown slots) disk → MayLeave slots (seen_by disk)
disk_left fill grown slots disk rests = record { a = cells_left fill grown slots.a disk.slots.a rests.a; b = cells_left fill grown slots.b disk.slots.b rests.b }

pub disk_left_ok : (fill : Option ℕ) (grown : ℕ) (disk : MemoryDisk) (result : Result MemoryDisk AllocError) → IfOk result (DiskRests (after_crash_image fill grown disk.slots)) → IfOk result (λ left. DiskMayLeave disk (seen_by left))
disk_left_ok fill grown disk (Ok left) rests = disk_left fill grown disk.slots left rests
disk_left_ok fill grown disk (Err e) rests = tt

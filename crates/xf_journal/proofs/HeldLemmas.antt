-- What two slots hold, where one of them changes.
use Rattle.std.proofs.Common.{◌≡◌, ◌≤◌, ℕ, List, length, Option, Some, None, Result, Ok, Err, refl, ◌∙◌, ap}
use Rattle.std.proofs.lemmas.Bool.{leb-true, and_parts}
use Rattle.std.specs.Prelude.{Bool, true, false, nat_le, ◌==◌, if◌then◌else◌, slice_index}
use Rattle.xf_disk.specs.declared.slot.Slot.{Slot}
use Rattle.xf_disk.specs.declared.slot.Slot.TheVariants.{A, B}
use Rattle.xf_disk.specs.Image.{Image, in_slot, beside}
use Rattle.xf_journal.specs.declared.fault.JournalFault.{JournalFault}
use Rattle.xf_journal.specs.Layout.{is_open, open_epoch, epoch_in}
use Rattle.xf_journal.specs.Held.{Log, log_of, chosen, in_use, some_log, held_in, held}

-- the epoch of one slot among two
abbrev pub this_of : Slot → Option ℕ → Option ℕ → Option ℕ
this_of A a b = a
this_of B a b = b

pub record InUse (image : Image) (log : Log) : Type 0 where
  pub slot : Slot
  pub used : in_use image ≡ Ok (Some slot)
  pub read : log_of slot (in_slot slot image) ≡ Ok log

some_inv : (r : Result Log JournalFault) (log : Log) → some_log r ≡ Ok (Some log) → r ≡ Ok log
some_inv (Ok l) log is = cc
some_inv (Err e) log is = cc

held_inv : (image : Image) (log : Log) (r : Result (Option Slot) JournalFault) → in_use image ≡ r → held_in image r ≡ Ok (Some log) → InUse image log
held_inv image log (Err e) used is = cc
held_inv image log (Ok None) used is = cc
held_inv image log (Ok (Some slot)) used is = record { slot = slot; used = used; read = some_inv (log_of slot (in_slot slot image)) log is }

-- a journal that is held stands in the slot in use
pub in_use_of : (image : Image) (log : Log) → held image ≡ Ok (Some log) → InUse image log
in_use_of image log is = held_inv image log (in_use image) refl is

pub held_by_use : (image : Image) (slot : Slot) (log : Log) → in_use image ≡ Ok (Some slot) → log_of slot (in_slot slot image) ≡ Ok log → held image ≡ Ok (Some log)
held_by_use image slot log used read = ap (held_in image) used ∙ ap some_log read

-- the slot in use is open
chosen_open : (slot : Slot) (a b : Option ℕ) → chosen a b ≡ Ok (Some slot) → (epoch : ℕ) × (this_of slot a b ≡ Some epoch)
chosen_open slot None None is = cc
chosen_open A (Some a) None is = (a, refl)
chosen_open B (Some a) None is = cc
chosen_open A None (Some b) is = cc
chosen_open B None (Some b) is = (b, refl)
chosen_open A (Some a) (Some b) is = (a, refl)
chosen_open B (Some a) (Some b) is = (b, refl)

open_inv : (bytes : List ℕ) (b : Bool) (epoch : ℕ) → is_open bytes ≡ b → (if b then Some (epoch_in bytes) else None) ≡ Some epoch → is_open bytes ≡ true
open_inv bytes true epoch is some = is
open_inv bytes false epoch is some = cc

pub open_of : (bytes : List ℕ) (epoch : ℕ) → open_epoch bytes ≡ Some epoch → is_open bytes ≡ true
open_of bytes epoch some = open_inv bytes (is_open bytes) epoch refl some

pub long_of : (bytes : List ℕ) → is_open bytes ≡ true → 22 ≤ length bytes
long_of bytes is = leb-true 22 (length bytes) (and_parts (nat_le 22 (length bytes)) (slice_index bytes 0 == 1) is).0

pub used_is_open : (image : Image) (slot : Slot) → in_use image ≡ Ok (Some slot) → is_open (in_slot slot image) ≡ true
used_is_open image A used = let opened = chosen_open A (open_epoch image.a) (open_epoch image.b) used in open_of image.a opened.0 opened.1
used_is_open image B used = let opened = chosen_open B (open_epoch image.a) (open_epoch image.b) used in open_of image.b opened.0 opened.1

-- the same slot is in use where one slot keeps its epoch and the one beside it its bytes
pub in_use_alike : (slot : Slot) (image new : Image) → open_epoch (in_slot slot new) ≡ open_epoch (in_slot slot image) → in_slot (beside slot) new ≡ in_slot (beside slot) image → in_use new ≡ in_use image
in_use_alike A image new this rest = λ i. chosen (this i) (open_epoch (rest i))
in_use_alike B image new this rest = λ i. chosen (open_epoch (rest i)) (this i)

-- What stands in the two slots.
use Rattle.std.specs.Prelude.{ℕ, List, []}
use Rattle.xf_disk.specs.declared.slot.Slot.{Slot}
use Rattle.xf_disk.specs.declared.slot.Slot.TheVariants.{A, B}

-- the bytes of the two slots
pub record Image : Type 0 where
  pub a : List ℕ
  pub b : List ℕ

abbrev pub in_slot : Slot → Image → List ℕ
in_slot A image = image.a
in_slot B image = image.b

-- the other of the two
abbrev pub beside : Slot → Slot
beside A = B
beside B = A

abbrev pub nothing : Image
nothing = record { a = []; b = [] }

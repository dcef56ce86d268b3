-- What a crash may leave, and how the calls of a disk change that.
use Rattle.std.specs.Prelude.{◌≡◌, ◌⊎◌, ℕ, ◌+◌, ◌≤◌, max, List, length, take, drop}
use Rattle.xf_disk.specs.declared.slot.Slot.{Slot}
use Rattle.xf_disk.specs.Image.{Image, in_slot, beside}

-- after a write of n bytes that a crash may cut short: any bytes in the range and past the old end,
-- any length from the old to the new end, and the same bytes elsewhere
pub record Torn (at n : ℕ) (old new : List ℕ) : Type 0 where
  pub before : take at new ≡ take at old
  pub after : drop (at + n) new ≡ drop (at + n) old
  pub no_shorter : length old ≤ length new
  pub no_longer : length new ≤ max (length old) (at + n)

-- one slot goes a step, and the one beside it stays
pub record InSlot (slot : Slot) (step : List ℕ → List ℕ → Type 0) (old new : Image) : Type 0 where
  pub this : step (in_slot slot old) (in_slot slot new)
  pub rest : in_slot (beside slot) new ≡ in_slot (beside slot) old

-- what a crash may leave now is what it might have left before, a step further
abbrev pub Follows : (Image → Image → Type 0) → (Image → Type 0) → (Image → Type 0) → Type 0
Follows step old new = (image : Image) → new image → (before : Image) × old before × step before image

-- a crash now leaves nothing that it could not have left before
abbrev pub LeavesNoMore : (Image → Type 0) → (Image → Type 0) → Type 0
LeavesNoMore old new = (image : Image) → new image → old image

-- whatever a crash now leaves has this
abbrev pub LeavesAll : (Image → Type 0) → (Image → Type 0) → Type 0
LeavesAll may_leave P = (image : Image) → may_leave image → P image

-- a crash leaves what a read gives, and nothing else
abbrev pub IsSettled : Image → (Image → Type 0) → Type 0
IsSettled seen may_leave = LeavesAll may_leave (λ image. image ≡ seen)

-- time goes on: a crash since t might have left what it might have left before, or what it may leave now
pub record Elapses (before now : ℕ) (past since : ℕ → Image → Type 0) (may_leave : Image → Type 0) : Type 0 where
  pub later : before ≤ now
  pub nothing_else : (t : ℕ) (image : Image) → t ≤ before → since t image → past t image ⊎ may_leave image
  pub keeps : (t : ℕ) (image : Image) → t ≤ before → past t image → since t image

-- a crash at any moment since old leaves an image that has P
pub record LeavesOnly {D : Type 0} (moment : D → ℕ) (left_since : D → ℕ → Image → Type 0) (old new : D) (P : Image → Type 0) : Type 0 where
  pub later : moment old ≤ moment new
  pub each : (image : Image) → left_since new (moment old) image → P image
  -- for a run that began earlier
  pub before : (t : ℕ) (image : Image) → t ≤ moment old → left_since new t image → left_since old t image ⊎ P image

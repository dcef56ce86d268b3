-- What crashes leave in one part of a run after another.
use Rattle.std.proofs.Common.{◌≡◌, ◌≤◌, ◌⊎◌, ℕ, Bool, refl, arith, inl, inr, le_refl}
use Rattle.xf_disk.specs.Image.{Image}
use Rattle.xf_disk.specs.Crash.{LeavesAll, LeavesOnly}
use Rattle.xf_journal.specs.Moments.{OnlyLooks}

module _ {D : Type 0} (moment : D → ℕ) (left_since : D → ℕ → Image → Type 0) where
  pub wider : (old new : D) (P Q : Image → Type 0) → LeavesOnly moment left_since old new P → ((image : Image) → P image → Q image) → LeavesOnly moment left_since old new Q
  wider old new P Q h so = record {
    later = h.later;
    each = λ image left. so image (h.each image left);
    before = λ t image le left. either t image (h.before t image le left);
  }
    where
      either : (t : ℕ) (image : Image) → left_since old t image ⊎ P image → left_since old t image ⊎ Q image
      either t image (inl left) = inl left
      either t image (inr p) = inr (so image p)

  pub then : (old mid new : D) (P : Image → Type 0) → LeavesOnly moment left_since old mid P → LeavesOnly moment left_since mid new P → LeavesOnly moment left_since old new P
  then old mid new P h k = record {
    later = omega (arith, h.later, k.later);
    each = λ image left. now image (k.before (moment old) image h.later left);
    before = λ t image le left. earlier t image le (k.before t image (omega (arith, le, h.later)) left);
  }
    where
      now : (image : Image) → left_since mid (moment old) image ⊎ P image → P image
      now image (inl left) = h.each image left
      now image (inr p) = p

      earlier : (t : ℕ) (image : Image) → t ≤ moment old → left_since mid t image ⊎ P image → left_since old t image ⊎ P image
      earlier t image le (inl left) = h.before t image le left
      earlier t image le (inr p) = inr p

  -- what holds of all that a crash leaves at each moment holds of what it leaves at the last
  pub at_last : (may_leave : D → Image → Type 0) (counts_now : (disk : D) (t : ℕ) (image : Image) → t ≤ moment disk → may_leave disk image → left_since disk t image)
      → (old new : D) (P : Image → Type 0) → LeavesOnly moment left_since old new P → LeavesAll (may_leave new) P
  at_last may_leave counts_now old new P h = λ image left. h.each image (counts_now new (moment old) image h.later left)

  -- no call was made
  pub still : (may_leave : D → Image → Type 0) (only_now : (disk : D) (image : Image) → left_since disk (moment disk) image → may_leave disk image)
      → (disk : D) (P : Image → Type 0) → LeavesAll (may_leave disk) P → LeavesOnly moment left_since disk disk P
  still may_leave only_now disk P h = record {
    later = le_refl (moment disk);
    each = λ image left. h image (only_now disk image left);
    before = λ t image le left. inl left;
  }

  pub looks_still : (tells : D → Bool) (seen : D → Image) (may_leave : D → Image → Type 0) (only_now : (disk : D) (image : Image) → left_since disk (moment disk) image → may_leave disk image)
      → (disk : D) → OnlyLooks tells seen may_leave moment left_since disk disk
  looks_still tells seen may_leave only_now disk = record {
    same_told = refl;
    same_seen = refl;
    no_more = λ image left. left;
    each_moment = still may_leave only_now disk (may_leave disk) (λ image left. left);
  }

-- What is known of a disk that a run is given, before it and after.
use Rattle.std.specs.Prelude.{◌≡◌, ℕ, Bool, IsTrue}
use Rattle.xf_base.specs.Faults.{Rose}
use Rattle.xf_disk.specs.Image.{Image}
use Rattle.xf_disk.specs.Crash.{LeavesAll, LeavesOnly}
use Rattle.xf_journal.specs.Moments.{OnlyLooks}

-- what disks of one kind tell of themselves, and the disk before and after
pub record Device : Type 1 where
  pub Disk : Type 0
  -- whether it keeps the model below
  pub tells : Disk → Bool
  -- what a read gives
  pub seen : Disk → Image
  -- what a crash may leave
  pub may_leave : Disk → Image → Type 0
  pub moment : Disk → ℕ
  -- what a crash at some moment from that one on might have left
  pub left_since : Disk → ℕ → Image → Type 0
  pub faults : Disk → ℕ
  pub before : Disk
  pub after : Disk

abbrev pub device_of : {D : Type 0} → (D → Bool) → (D → Image) → (D → Image → Type 0) → (D → ℕ) → (D → ℕ → Image → Type 0) → (D → ℕ) → D → D → Device
device_of {D} tells seen may_leave moment left_since faults before after = record {
  Disk = D;
  tells = tells;
  seen = seen;
  may_leave = may_leave;
  moment = moment;
  left_since = left_since;
  faults = faults;
  before = before;
  after = after;
}

-- it keeps the model of disks: a real one does not say so
abbrev pub Tells : Device → Type 0
Tells device = IsTrue (device.tells device.before)

-- what a read gives as the run begins
abbrev pub first_image : Device → Image
first_image device = device.seen device.before

-- no call of it was made
abbrev pub IsUnused : Device → Type 0
IsUnused device = device.after ≡ device.before

-- nothing was written
abbrev pub IsLookedAt : Device → Type 0
IsLookedAt device = OnlyLooks device.tells device.seen device.may_leave device.moment device.left_since device.before device.after

abbrev pub HasFailed : Device → Type 0
HasFailed device = Rose (device.faults device.before) (device.faults device.after)

-- ---- what a crash leaves

-- as the run begins
abbrev pub AtFirst : Device → (Image → Type 0) → Type 0
AtFirst device P = LeavesAll (device.may_leave device.before) P

-- at any moment of the run
abbrev pub AtEachMoment : Device → (Image → Type 0) → Type 0
AtEachMoment device P = LeavesOnly device.moment device.left_since device.before device.after P

-- as the run ends
abbrev pub AtLast : Device → (Image → Type 0) → Type 0
AtLast device P = LeavesAll (device.may_leave device.after) P

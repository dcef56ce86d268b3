pub use Rattle.xf_base.specs.Faults.{Rose, HasCause}
pub use Rattle.xf_disk.specs.Image.{in_slot, beside}
pub use Rattle.xf_disk.specs.Crash.{LeavesOnly, LeavesAll, LeavesNoMore, IsSettled}
pub mod Numbers
pub mod Entry
pub mod Layout
pub mod Held
pub mod Scanned
pub mod Moments

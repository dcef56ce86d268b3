pub use Rattle.xf_base.specs.Faults.{Rose, HasCause}
pub mod Replies
pub mod Held
pub mod Calls
pub mod Causes
pub mod Replay
pub mod Called
pub mod Objects
pub mod Laws

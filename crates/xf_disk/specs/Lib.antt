pub use Rattle.xf_base.specs.Faults.{Rose, HasCause}
pub mod Image
pub mod Crash
pub mod Marks
pub mod Cells
pub mod Memory
pub mod Fused
pub mod File
pub mod Laws

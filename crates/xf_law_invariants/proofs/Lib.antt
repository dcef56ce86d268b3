pub mod TreeLemmas
pub mod PlannedLemmas
pub mod WholeLemmas
pub mod FrameLemmas

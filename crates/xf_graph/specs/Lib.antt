pub mod Answer
pub mod Edges
pub mod Marks
pub mod Order
pub mod Cycle
pub mod Pertinent
pub mod Search
pub mod Steps

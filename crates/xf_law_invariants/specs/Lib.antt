pub mod Tree
pub mod Planned
pub mod Whole
pub mod Frame

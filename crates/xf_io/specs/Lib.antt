pub mod Ahead
pub mod Failing
pub mod Flushed
pub mod Front
pub mod Lines
pub mod Memory
pub mod Part

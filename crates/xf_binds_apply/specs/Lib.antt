pub mod Standing
pub mod Adding
pub mod Fault
pub mod Reached

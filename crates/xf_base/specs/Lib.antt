pub mod Gives
pub mod Faults
pub mod Limits

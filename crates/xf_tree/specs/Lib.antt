pub mod Calls
pub mod Settled
pub mod State
pub mod Swapped

pub mod Fault
pub mod State
pub mod Seen
pub mod Constructed
pub mod Submitting

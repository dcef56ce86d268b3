pub mod Kept
pub mod Stays
pub mod Changes
pub mod Settled
pub mod Valid

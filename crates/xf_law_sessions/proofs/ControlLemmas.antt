pub mod Seen
pub mod Changes
pub mod Holding
pub mod Models

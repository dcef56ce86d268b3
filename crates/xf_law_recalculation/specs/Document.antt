pub mod Documents
pub mod Changes
pub mod Binds

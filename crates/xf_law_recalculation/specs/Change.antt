pub mod Carried
pub mod Steps
pub mod Elsewhere
pub mod Documents

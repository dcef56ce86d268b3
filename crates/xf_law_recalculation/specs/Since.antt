pub mod Since
pub mod Pertinent

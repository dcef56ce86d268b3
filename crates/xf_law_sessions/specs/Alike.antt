pub mod Rested
pub mod Whole

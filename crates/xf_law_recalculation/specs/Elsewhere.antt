pub mod Parts
pub mod Stays

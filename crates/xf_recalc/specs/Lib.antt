pub mod Settles
pub mod Turns
pub mod Known
pub mod Whole
pub mod Passes

pub mod Bounded
pub mod Conversions
pub mod Functions

pub mod OfTable
pub mod Marked
pub mod Places
pub mod Called
pub mod Begun
pub mod Spread

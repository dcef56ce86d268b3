pub mod Data
pub mod Elsewhere
pub mod Trees
pub mod Places

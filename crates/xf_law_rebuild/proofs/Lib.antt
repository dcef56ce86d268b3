pub mod Elsewhere
pub mod Grown
pub mod Holders
pub mod Trees
pub mod Places

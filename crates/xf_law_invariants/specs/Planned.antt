pub mod Outside
pub mod Planned
pub mod Roots
pub mod Ready

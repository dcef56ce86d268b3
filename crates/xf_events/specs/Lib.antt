pub mod Notes
pub mod Handlers
pub mod Listeners
pub mod Inner
pub mod Telling
pub mod Places
pub mod Changed

pub mod Around
pub mod Bound
pub mod Scope
pub mod Handlers
pub mod Names
pub mod Parts
pub mod Switch

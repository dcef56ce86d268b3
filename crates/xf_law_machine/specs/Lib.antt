pub mod Behaviours
pub mod Beside
pub mod Rest
pub mod First

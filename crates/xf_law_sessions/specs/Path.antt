pub mod Again
pub mod Paths

pub mod Seeing
pub mod Chains
pub mod Placed
pub mod Passes
pub mod Starts

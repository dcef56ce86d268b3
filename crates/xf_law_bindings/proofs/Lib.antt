pub mod Standing
pub mod Bindings
pub mod Chains

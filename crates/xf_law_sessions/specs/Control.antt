pub mod Leaves
pub mod Holding
pub mod Models

pub mod Nodes
pub mod Chain
pub mod Invalid
pub mod Failed
pub mod Looks

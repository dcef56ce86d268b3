pub mod Leaves
pub mod First
pub mod Nodes
pub mod Kids
pub mod Walks
pub mod Found
pub mod Reads
pub mod Siblings

pub mod Naming
pub mod Rows
pub mod Handled
pub mod Running

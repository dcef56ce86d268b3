pub mod Sheet
pub mod Report

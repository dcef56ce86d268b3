pub mod Family
pub mod Opened
pub mod Holding

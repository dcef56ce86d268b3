pub mod Covered
pub mod Fixed

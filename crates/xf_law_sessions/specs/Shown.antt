pub mod Shown
pub mod Brought
pub mod Constructed

pub mod Tags
pub mod Classes
pub mod Placement
pub mod Attributes
pub mod Rules
pub mod Texts
pub mod Needs
pub mod Faults

pub mod Cases
pub mod Adoption

pub mod Adoption

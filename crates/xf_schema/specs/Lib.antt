pub mod Types
pub mod Spaces
pub mod Decimals
pub mod Seen
pub mod Facets
pub mod Faults

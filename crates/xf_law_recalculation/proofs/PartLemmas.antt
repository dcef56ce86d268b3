pub mod Binds
pub mod Graphs
pub mod Settling
pub mod Pertinence
pub mod OfPart
pub mod Others
pub mod Examples
pub mod States

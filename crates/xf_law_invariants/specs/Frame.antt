pub mod Base
pub mod Each
pub mod Moves

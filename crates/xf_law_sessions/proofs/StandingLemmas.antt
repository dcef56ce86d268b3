pub mod Facts
pub mod Standing
pub mod AtRest

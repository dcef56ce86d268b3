pub mod Standing
pub mod AtRest

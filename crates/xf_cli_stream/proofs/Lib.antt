pub mod Said
pub mod Progress
pub mod Flushing

pub mod Well
pub mod First

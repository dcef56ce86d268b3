pub mod Covered
pub mod Kept
pub mod Settles
pub mod FormSettles
pub mod InTurn
pub mod Evaluated
pub mod Hung
pub mod Forests

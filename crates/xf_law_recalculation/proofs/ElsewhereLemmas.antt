pub mod Trees
pub mod Own
pub mod Stays
pub mod Grown

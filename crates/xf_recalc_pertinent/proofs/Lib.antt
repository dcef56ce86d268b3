pub mod Lists
pub mod Members
pub mod Spreads
pub mod Begins
pub mod Ups
pub mod Counted
pub mod Calculated
mod Examples

pub mod Fitting
pub mod EachKeeps
pub mod EachEvents
pub mod Cases

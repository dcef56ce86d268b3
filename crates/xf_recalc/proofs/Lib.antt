mod Values
mod HeldSteps
mod ListLemmas
mod PlacedLists
mod InOrder
mod Known
mod Turning
mod Surroundings
mod Ending
mod Left
pub mod Passing
pub mod KeptTruths

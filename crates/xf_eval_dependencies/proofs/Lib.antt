pub mod Levels
pub mod Calls
pub mod Rounds
pub mod Told
pub mod Around
pub mod Wholes
pub mod AskedLemmas

pub mod Sound
pub mod Spots
pub mod Steps
pub mod Fixed
pub mod Over
pub mod Told
pub mod Woven
pub mod Bound

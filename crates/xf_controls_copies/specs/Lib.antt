pub mod Handed
pub mod Made
pub mod Parents
pub mod Seen
pub mod Walk

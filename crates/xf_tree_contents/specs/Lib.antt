pub mod Slot
pub mod Bearers
pub mod Names
pub mod Keys
pub mod Slots
pub mod Seen
pub mod Sought

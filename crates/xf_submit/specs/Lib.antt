pub mod Errors
pub mod Selecting
pub mod Requesting
pub mod Calling
pub mod Responding
pub mod Targets
pub mod Ending
pub mod Steps

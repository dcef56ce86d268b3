pub mod Offsets
pub mod Played
pub mod Keeps
pub mod PostLaws
pub mod StartLaws
pub mod BeginLaws
mod Examples

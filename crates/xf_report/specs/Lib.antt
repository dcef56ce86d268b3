pub mod Answers
pub mod Controls
pub mod Lines
pub mod Named
pub mod Refusals

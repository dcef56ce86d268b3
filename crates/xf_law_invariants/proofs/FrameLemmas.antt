pub mod Bound
pub mod EachKeeps
pub mod EachEvents
pub mod Frame
pub mod BaseKept
pub mod BaseSettled
pub mod Moves

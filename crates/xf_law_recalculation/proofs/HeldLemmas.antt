pub mod Seats
pub mod Shapes
pub mod Forests
pub mod Documents
pub mod Held
pub mod Apart
pub mod Named

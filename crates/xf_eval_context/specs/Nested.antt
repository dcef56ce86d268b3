pub mod StandIns
pub mod Chain

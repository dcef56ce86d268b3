pub mod PutShape
pub mod Still
pub mod Recalculating

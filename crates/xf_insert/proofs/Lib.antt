pub mod KindLaws
pub mod DeleteLaws
pub mod PlaceLaws
pub mod AtLaws
pub mod ClosedLaws
pub mod LoopLaws

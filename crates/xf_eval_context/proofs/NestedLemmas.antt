pub mod ChainLaws
pub mod StandInLaws
pub mod SetLaws

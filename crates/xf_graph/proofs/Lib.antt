pub mod CutState
mod Examples
pub mod ExtendState
pub mod HasLemmas
pub mod HasLists
pub mod CycleLemmas
pub mod Laws
pub mod MeasureLemmas
pub mod OrderLemmas
pub mod PeelLemmas
pub mod SearchLemmas
pub mod WalkEnters
pub mod WalkLemmas
pub mod WalkMeasure
pub mod WalkState

pub mod SizeLemmas
pub mod PartLemmas
pub mod DurationLemmas
pub mod SpaceLemmas
mod Examples

pub mod CoveredLemmas
pub mod FixedLemmas

pub mod AddLaws
pub mod StandingLaws
pub mod SetLaws
pub mod Chains
pub mod EntryLaws

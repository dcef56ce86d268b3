pub mod RunLaws
pub mod EntryLaws
pub mod LeftLaws
pub mod StepCounts
pub mod Counted
pub mod OneImage
pub mod RestLaws
pub mod FindingLaws
pub mod FilledForms
mod Examples

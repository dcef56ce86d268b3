mod CallLaws
mod TextLaws
mod BelowLaws
mod NodeLaws
mod SourceLaws
mod LeftLaws
pub mod MachineLaws

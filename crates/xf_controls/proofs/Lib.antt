pub mod OptionLaws
pub mod PlaceLaws
pub mod PathLaws
pub mod HandedLaws
pub mod BelowLaws
pub mod FormLaws
pub mod WholeLaws
pub mod CodeLaws
pub mod NodeLaws
pub mod WalkLaws
pub mod ToldLaws
pub mod BeforeLaws
pub mod FixedLaws
pub mod KnownLaws
pub mod NotedLaws
pub mod RenewedLaws
pub mod ShownLaws
pub mod BoundLaws
mod RenewedExamples
mod FormerExamples
mod BoundExamples

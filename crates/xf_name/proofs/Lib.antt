pub mod PartLemmas
pub mod TableLemmas
pub mod DeclarationLemmas
pub mod WalkLemmas
pub mod DoubleLemmas
pub mod SurveyLemmas
pub mod Examples

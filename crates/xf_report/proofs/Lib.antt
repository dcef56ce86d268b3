pub mod AnswerLaws
pub mod ControlLaws
pub mod LineLaws
pub mod NamedLemmas
pub mod NodeLaws
pub mod InstanceLaws
pub mod WordLemmas

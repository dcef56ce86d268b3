pub mod CharLemmas
pub mod Turns
pub mod GrammarLemmas
pub mod Ladder
mod Examples
mod StaticExamples

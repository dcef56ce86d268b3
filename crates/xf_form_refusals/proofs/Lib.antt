pub mod RowLemmas
mod SchemaLemmas
pub mod WalkLemmas
pub mod TallyLemmas
pub mod RefusalLemmas

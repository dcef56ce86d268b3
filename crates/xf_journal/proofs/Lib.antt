mod Examples
mod NumberLemmas
pub mod EntryLemmas
pub mod TailLemmas
mod HeaderLemmas
pub mod SlotLemmas
pub mod HeldLemmas
mod AppendLemmas
mod AppendRun
mod SpliceLemmas
mod CreateLemmas
mod NewLemmas
mod CreateRun
mod RunLemmas
mod RenewLemmas
pub mod WithinLemmas

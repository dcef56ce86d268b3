pub mod AlikeLemmas
pub mod FreeLemmas
pub mod SlotLemmas
pub mod BearerLemmas
pub mod WrittenLemmas

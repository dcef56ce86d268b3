pub mod ElementLemmas
mod AroundLemmas
mod ScopeLemmas
mod HandlerLemmas
mod NameLemmas
pub mod SwitchLemmas

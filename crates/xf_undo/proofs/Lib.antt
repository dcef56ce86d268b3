pub mod ChildLemmas
pub mod IndexLemmas
pub mod DraftLemmas

pub mod HeldLemmas
pub mod CalledLaws
pub mod Examples

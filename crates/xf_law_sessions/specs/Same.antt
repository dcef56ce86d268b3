pub mod Going
pub mod Behaving
pub mod Controls
pub mod Texts

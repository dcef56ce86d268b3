pub mod Around
pub mod Indexes
pub mod Over
pub mod Inside
pub mod Texts
pub mod Nested

pub mod Entries
pub mod Children
pub mod Index
pub mod Draft

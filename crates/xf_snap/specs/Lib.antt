pub mod Numbers
pub mod Spelling
pub mod Within
pub mod Reading

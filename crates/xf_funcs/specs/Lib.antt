pub mod Given
pub mod Searching
pub mod Substring
pub mod Translate
pub mod Numbers
pub mod Called
pub mod Served

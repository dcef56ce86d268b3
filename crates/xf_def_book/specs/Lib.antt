pub mod Lines
pub mod Alone
pub mod Books
pub mod Images
pub mod Examples

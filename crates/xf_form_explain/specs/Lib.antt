pub mod Ids
pub mod Missing
pub mod Details
pub mod Unread
pub mod Words
pub mod Places
pub mod Texts
pub mod Explained

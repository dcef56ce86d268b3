pub mod Within
pub mod Lists
pub mod Told
pub mod Seen
pub mod Asks
pub mod Reading
pub mod Laws

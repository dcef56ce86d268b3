pub mod Beside
pub mod Lists
pub mod Tells

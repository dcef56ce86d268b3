pub mod Listings
pub mod Spotted
pub mod Ends
pub mod Tellings
pub mod Steppings

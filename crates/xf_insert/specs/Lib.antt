pub mod Numbers
pub mod Names
pub mod Placing
pub mod Closed
pub mod Taking

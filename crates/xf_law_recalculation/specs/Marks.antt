pub mod Marks
pub mod Outside
pub mod Instances
pub mod Binds

pub mod Held
pub mod OwnForest

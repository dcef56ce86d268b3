pub mod Going
pub mod ChangesGo
pub mod ReadingsGo

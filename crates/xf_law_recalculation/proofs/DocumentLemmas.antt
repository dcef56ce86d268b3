pub mod Elements
pub mod Follow
pub mod Each
pub mod RootsKept

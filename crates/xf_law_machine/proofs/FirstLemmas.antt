pub mod Sorted
pub mod BareTrees
pub mod Fine
pub mod Rooted
pub mod Deeps
pub mod Filled
pub mod Steps
pub mod FirstLaws

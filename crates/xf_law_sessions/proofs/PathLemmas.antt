pub mod Sorted
pub mod BareAgain
pub mod PathBytes
pub mod Found
pub mod PathLaws
pub mod NamesFree

pub mod ChainLaws
pub mod FailedLaws
pub mod SameLaws
pub mod QuietKeeps
pub mod WrittenContents

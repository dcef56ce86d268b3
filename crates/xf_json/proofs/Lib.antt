pub mod Bytes
pub mod Parts
pub mod Written
pub mod Sorted
pub mod ReadsBack
pub mod Examples

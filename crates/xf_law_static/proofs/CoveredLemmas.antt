pub mod TripleKeeps
pub mod Words
pub mod StaticLaw
pub mod ReaderLaw
pub mod FormLaw

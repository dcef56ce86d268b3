pub mod TextLemmas
pub mod DigitLemmas
mod Examples
pub mod Laws

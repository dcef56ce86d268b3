pub mod DecimalLemmas
pub mod TextLemmas
pub mod DayLemmas
pub mod TotalLemmas
pub mod Laws
mod Examples

pub mod TextLemmas
pub mod SearchLemmas
pub mod PlaceLemmas
pub mod TranslateLemmas
pub mod LimitLemmas
pub mod CallLaws
pub mod Examples

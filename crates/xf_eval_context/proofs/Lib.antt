pub mod FirstLaws
pub mod AroundLaws
pub mod InsideLaws
pub mod TextLaws
pub mod RowLaws
pub mod RowPlaces
pub mod IndexLaws
pub mod NestedLemmas

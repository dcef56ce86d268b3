pub mod TallyLemmas
pub mod VisitLemmas
pub mod FamilyLemmas
pub mod StemLemmas
pub mod OpenLemmas
pub mod PairLaws
pub mod RootLaws
pub mod PathLaws

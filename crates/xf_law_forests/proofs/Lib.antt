pub mod RollbackLemmas
pub mod SettleLemmas
pub mod RootLemmas

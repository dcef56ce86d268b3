pub mod Rollback
pub mod Settle
pub mod Root

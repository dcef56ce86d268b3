pub mod FixedLaw
pub mod BindsLaw

pub mod PlaceLaws
pub mod NamedLaws
pub mod PassLaws
pub mod UpLaws
pub mod StartLaws

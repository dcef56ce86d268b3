pub mod Then
pub mod NamingLaws
pub mod RowLaws
pub mod EventLaws
pub mod StartLaws
pub mod Told
pub mod EngineLaws
pub mod RunningLaws

pub mod WithTexts
pub mod Since
pub mod AllBinds

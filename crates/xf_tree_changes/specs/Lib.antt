pub mod Older
pub mod Below
pub mod Texts
pub mod Trees

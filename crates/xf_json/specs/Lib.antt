pub mod Element
pub mod Part
pub mod Printed
pub mod Tokens
pub mod Plain

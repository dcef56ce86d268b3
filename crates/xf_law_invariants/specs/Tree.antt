pub mod Trees
pub mod Kinds
pub mod Tops
pub mod Sizes

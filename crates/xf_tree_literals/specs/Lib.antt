pub mod Contents
pub mod Print

pub mod AsRead

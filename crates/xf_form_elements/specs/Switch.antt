pub mod Among

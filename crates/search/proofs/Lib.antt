-- Laws of the definitions, for several functions' proofs.
pub mod Counting
pub mod Beginning
pub mod Trying
pub mod Alike
pub mod Whole
pub mod Promise

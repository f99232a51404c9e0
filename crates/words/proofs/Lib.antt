-- Laws of the definitions, for several functions' proofs.
pub mod Reading

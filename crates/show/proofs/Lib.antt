-- Laws of the texts, for several functions' proofs.
pub mod Lines
pub mod Lengths

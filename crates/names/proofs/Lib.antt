-- Laws of the definitions, for several functions' proofs.
pub mod Texts
pub mod Pieces
pub mod Reading
pub mod Distinct
pub mod Fitting

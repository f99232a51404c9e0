-- Laws of the definitions, for the functions' proofs.
pub mod Stating
pub mod Numbering
pub mod Speaking

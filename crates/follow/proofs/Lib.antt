-- Laws of the definitions, for several functions' proofs.
pub mod Lines
pub mod Following
pub mod Promise
pub mod Round
pub mod Versions

-- Laws of the definitions, for several functions' proofs.
pub mod Verdicts
pub mod Promise
pub mod Narrowing
pub mod Survival

-- Laws of the definitions, for several functions' proofs.
pub mod Lanes
pub mod Tables
pub mod Copying
pub mod Facts
pub mod Blocks
pub mod Evaluating

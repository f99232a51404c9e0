-- Laws for several functions' proofs.
pub mod Bytes
pub mod Writing

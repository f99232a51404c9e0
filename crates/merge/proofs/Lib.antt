-- Laws of the definitions, for several functions' proofs: first those of the code, then those of the theorem.
pub mod Sound
pub mod Writing
pub mod Members
pub mod Sizes
pub mod Putting
pub mod Acting
pub mod Steps
pub mod Running
pub mod Pairs
pub mod Together
pub mod Refusals
pub mod Answers

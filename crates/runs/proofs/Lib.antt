-- Laws of the definitions, for several functions' proofs and for who runs a plan step by step.
pub mod Running
pub mod States

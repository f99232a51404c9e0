-- Laws of the definitions, for several functions' proofs.
pub mod Answers
pub mod Fewer
pub mod Promise
pub mod Within

-- Laws of the definitions, for several functions' proofs.
pub mod Readers
pub mod Heads
pub mod Items
pub mod Lengths
pub mod Decoding
pub mod Counting
pub mod Encoding
pub mod Leaves
pub mod Sizes
pub mod Plain

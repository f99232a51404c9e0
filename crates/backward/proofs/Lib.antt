-- Laws of the definitions, for several functions' proofs.
pub mod Words
pub mod Sets
pub mod Naming
pub mod Entries
pub mod Changing
pub mod Backward
pub mod States
pub mod Making
pub mod Going
pub mod Writing
pub mod Keeping
pub mod Tracing
pub mod Splitting
pub mod Reading
pub mod Stretching

-- What the functions of this crate leave in a buffer.
pub mod Writing

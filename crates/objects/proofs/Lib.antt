-- What is written of the objects.
pub mod Writing

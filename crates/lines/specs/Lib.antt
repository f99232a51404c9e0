-- What the functions of this crate answer, in the words of model/specs.
pub mod Lines
pub mod Readers
pub mod Putting

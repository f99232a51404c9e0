-- What the functions of this crate answer, in the words of model/specs.
pub mod Looks
pub mod States

-- What the functions of this crate answer, in the words of model/specs.
pub mod Conditions
pub mod Actions

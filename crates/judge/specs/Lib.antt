-- What the functions of this crate answer, in the words of model/specs.
pub mod Verdicts
pub mod Promise
pub mod Survival

-- What the functions of this crate answer, in the words of model/specs.
pub mod Actions
pub mod Problems
pub mod Promise
pub mod Values

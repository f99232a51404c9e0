-- What the functions of this crate answer, in the words of model/specs.
pub mod Covered
pub mod Follows
pub mod Promise

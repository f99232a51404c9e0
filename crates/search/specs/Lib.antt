-- What the functions of this crate answer, in the words of model/specs.
pub mod Beginning
pub mod Trying
pub mod Promise

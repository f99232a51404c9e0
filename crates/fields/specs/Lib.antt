-- What the functions of this crate answer, in the words of model/specs.
pub mod Counts
pub mod Effects
pub mod ActionBytes
pub mod Actions
pub mod Headers

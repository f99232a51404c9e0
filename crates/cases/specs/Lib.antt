-- What the functions of this crate answer, in the words of model/specs.
pub mod Lanes
pub mod Words
pub mod Facts
pub mod Blocks
pub mod Cases
pub mod Values

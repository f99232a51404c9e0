-- What the functions of this crate answer, in the words of model/specs.
pub mod Facts
pub mod Changes
pub mod Marks
pub mod Rows
pub mod Kept
pub mod Stretches

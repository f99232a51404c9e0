-- What the functions of this crate answer, in the words of model/specs, and what holds of a merged problem.
pub mod Beside
pub mod Members
pub mod Views
pub mod Writing
pub mod Promise

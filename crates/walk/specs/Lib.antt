-- What the functions of this crate answer, in the words of model/specs.
pub mod Lanes
pub mod Cases
pub mod Tables
pub mod Nodes
pub mod Walks
pub mod Pages

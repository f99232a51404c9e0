-- What the functions of this crate answer, in the words of model/specs.
pub mod Readings
pub mod Heads
pub mod Decoding
pub mod Views
pub mod Reading
pub mod Literals

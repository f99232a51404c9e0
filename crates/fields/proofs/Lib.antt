pub mod Readers
pub mod FirstEffect
pub mod Encoding

pub mod Words
pub mod Laws
pub mod Guarantees
pub mod Trials

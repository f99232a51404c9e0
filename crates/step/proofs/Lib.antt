-- Laws of the definitions, for several functions' proofs.
pub mod Settling
pub mod Entries
pub mod Holding
pub mod Turns
pub mod Conflicts
pub mod Finding
pub mod Obeying
pub mod Members

-- Laws of the definitions, for the functions' proofs.
pub mod Feeds
pub mod Shown

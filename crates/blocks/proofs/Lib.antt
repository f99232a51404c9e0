pub mod Standing
pub mod Problems
pub mod Tasks
pub mod Promise
pub mod Sizes

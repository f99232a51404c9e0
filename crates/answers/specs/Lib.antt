-- What is said of refusals, and the status that a command exits with.
pub mod Rows
pub mod Status
pub mod Reasons

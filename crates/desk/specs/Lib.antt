-- The status that the program exits with.
pub mod Unread
pub mod Status

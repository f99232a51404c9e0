-- The words of a text that a person writes, and what is said of it.
pub mod Words
pub mod Complaints

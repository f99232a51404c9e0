-- Answers as JSON: the members of their objects, and their text.
pub mod Members
pub mod Objects
pub mod Json
pub mod Text

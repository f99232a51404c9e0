-- What is replied where a problem is shown, and where blocks are made of a text.
pub mod Texts
pub mod Making
pub mod Shown
pub mod MayBeRead

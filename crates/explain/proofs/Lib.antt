pub mod Counting
pub mod Known
pub mod Members
pub mod Texts
pub mod Changing
pub mod Ends
pub mod Runs
pub mod Ending

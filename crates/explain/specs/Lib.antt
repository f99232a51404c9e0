-- A run, told step by step.
pub mod Rows
pub mod Told
pub mod States
pub mod Tells
pub mod Ending

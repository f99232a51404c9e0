-- Rows of the trial tables that take long to compute.
pub mod Sizes
pub mod Survival

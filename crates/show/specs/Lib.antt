-- The text of a problem and of a plan.
pub mod TextLength

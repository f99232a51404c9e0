-- What clap's matches answer, by their rows; and which commands need a number.
pub mod Rows
pub mod Numbers

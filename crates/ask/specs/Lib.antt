-- What a command asks, what its operation answers, and what is replied.
pub mod Asked
pub mod Explained
pub mod Commands
pub mod TellsRun
pub mod AskedAgain

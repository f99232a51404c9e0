-- Laws of the definitions, for the functions' proofs.
pub mod Failing
pub mod FailingRun
pub mod TellsRun
pub mod Known
pub mod AskedAgain

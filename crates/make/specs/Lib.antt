-- What a text says: the problem and the plan in it, or what is wrong with it.
pub mod Parsed
pub mod FormulaText
pub mod SourceText
pub mod Reads
pub mod Views
pub mod Made
pub mod RoundTrip

-- What a command line asks for, by what clap found on it, and which files that reads and writes.
pub mod Asked
pub mod FilePaths

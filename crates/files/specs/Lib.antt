-- What a file is to a command.
pub mod Roles

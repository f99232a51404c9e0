-- What is written, in the words of model/specs.
pub mod Pages
pub mod Rest
pub mod Cut

-- What commands reply.
pub mod StateMarks
pub mod StateLines
pub mod Unanswered
pub mod Failures
pub mod Spoken
pub mod Views
pub mod Said
pub mod Replies
pub mod About

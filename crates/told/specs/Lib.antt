-- The line that an answer is told as.
pub mod States
pub mod AnswerText

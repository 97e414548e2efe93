-- For what the executor of a seat answers.
pub mod Answered

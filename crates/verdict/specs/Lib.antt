pub mod Answers
pub mod Showing

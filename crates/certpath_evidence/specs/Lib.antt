pub mod Answers
pub mod Evidence
pub mod Examples

pub mod Answered
pub mod AnsweredAll
pub mod Contents

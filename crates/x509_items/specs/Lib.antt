pub mod Answers
pub mod Grammar
pub mod Reading
pub mod Texts

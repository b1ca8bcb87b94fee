pub mod Answers
pub mod Examples
pub mod Identifiers
pub mod Parameters
pub mod Reading
pub mod Signatures
pub mod Values
pub mod View

pub mod Identifier
pub mod Reading
pub mod Text
pub mod Held
pub mod Spelling
pub mod Joining

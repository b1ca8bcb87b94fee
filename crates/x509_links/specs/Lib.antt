pub mod Examples
pub mod Grammars
pub mod Lenient
pub mod Readers
pub mod Values

pub mod Charsets
pub mod Texts
pub mod CharsetLaws
pub mod Wide
pub mod WideLaws
pub mod Readers
pub mod ReaderLaws

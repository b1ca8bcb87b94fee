pub mod Bits
pub mod BitLaws
pub mod BooleanLaws
pub mod Numbers
pub mod Contents
pub mod Readers
pub mod ReaderLaws

pub mod Cases
pub mod Faults
pub mod Identifiers
pub mod Kinds
pub mod Parsed
pub mod Parts
pub mod Reading
pub mod Types
pub mod Values
pub mod View
pub use Rattle.x509_ext_basic.specs.x509_ext_flags as x509_ext_flags

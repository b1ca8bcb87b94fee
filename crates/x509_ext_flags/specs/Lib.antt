pub mod Extensions
pub mod Flags
pub mod Numbers
pub mod Reading
pub mod Texts
pub mod Values
pub mod View
pub use Rattle.x509_names as x509_names

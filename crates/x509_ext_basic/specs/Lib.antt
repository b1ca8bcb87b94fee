pub mod Examples
pub mod Leaves
pub mod Reading
pub mod Refusals
pub mod Values
pub mod View
pub use Rattle.x509_ext_flags as x509_ext_flags
pub use Rattle.x509_time as x509_time

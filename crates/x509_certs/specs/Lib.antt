pub mod Certificates
pub mod Examples
pub mod Fields
pub mod Getters
pub mod Reading
pub mod Shared
pub mod View
pub mod Visits
pub use Rattle.x509_ext as x509_ext

pub mod Points
pub mod Reading
pub mod Values
pub mod View
pub use Rattle.x509_ext_names as x509_ext_names
pub use Rattle.x509_ext_names.specs.x509_ext_policies as x509_ext_policies

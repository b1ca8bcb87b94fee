pub mod Extensions
pub mod GeneralTexts
pub mod Names
pub mod Reading
pub mod Values
pub mod View
pub use Rattle.x509_ext_flags as x509_ext_flags
pub use Rattle.x509_ext_flags.specs.x509_names as x509_names
pub use Rattle.x509_ext_policies as x509_ext_policies

pub mod Examples
pub mod Times
pub mod Updates
pub mod Calls
pub mod Texts
pub mod Reading
pub mod View
pub use Rattle.x509_core.specs.Fronts

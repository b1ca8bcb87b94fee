pub mod Extensions
pub mod Fields
pub mod Lookup
pub mod Maps
pub mod Parts
pub mod Reading
pub mod Texts
pub mod Values
pub mod View
pub use Rattle.x509_core.specs.Fronts
pub use Rattle.x509_ext_parse.specs.declared.parsed.ParsedExtension.TheVariants as Kinds

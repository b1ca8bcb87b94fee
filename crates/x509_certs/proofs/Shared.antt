-- Laws of extensions, for the crates above.
pub use Rattle.x509_ext.proofs.ExtensionLaws.{IsValueLaw, reads_law}

-- The types that lenient reading gives, and their fields, for the crates above.
pub use Rattle.x509_certs.specs.Shared.{Extension, IsUnparsed, extension_view, identifier_view, HeldVersion}
pub use Rattle.x509_certs.specs.View.{certificate_view}
pub use Rattle.x509_certs.specs.declared.certificate.X509Certificate.{X509Certificate}
pub use Rattle.x509_lists.specs.View.{entry_view, list_view}
pub use Rattle.x509_lists.specs.declared.entry.RevokedCertificate.{RevokedCertificate}
pub use Rattle.x509_lists.specs.declared.list.CertificateRevocationList.{CertificateRevocationList}

-- What begins with a certificate, or with a list, as it is read leniently.
pub use Rattle.x509_certs.specs.Certificates.{X509Certificate}
pub use Rattle.x509_lists.specs.Lists.{CertificateRevocationList}

-- The words on values of extensions, and their types, for the crates above.
pub use Rattle.x509_ext_parse.specs.Identifiers.{id_ce}
pub use Rattle.x509_ext_parse.specs.Parsed.{IsParsed}
pub use Rattle.x509_ext_parse.specs.Reading.{deeply}
pub use Rattle.x509_ext_parse.specs.declared.parsed.ParsedExtension.{ParsedExtension}
pub use Rattle.x509_ext_parse.specs.Types.{unparsed, serial_text, SignedCertificateTimestamp, CRLDistributionPoints, IssuingDistributionPoint, AuthorityInfoAccess, IssuerAlternativeName, SubjectAlternativeName, NameConstraints, AuthorityKeyIdentifier, BasicConstraints, KeyUsage, NSCertType, KeyIdentifier, InhibitAnyPolicy, PolicyConstraints, ReasonCode, PolicyMappings, PolicyInformation, ExtendedKeyUsage}

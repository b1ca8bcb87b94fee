-- The types of the values of extensions, their texts, and the value that isn't read, for the crates above.
pub use Rattle.x509_ext_parse.specs.Values.{Parsed, unparsed}
pub use Rattle.x509_items.specs.Texts.{serial_text}
pub use Rattle.x509_ext_sct.specs.declared.timestamps.SignedCertificateTimestamp.{SignedCertificateTimestamp}
pub use Rattle.x509_ext_points.specs.declared.points.CRLDistributionPoints.{CRLDistributionPoints}
pub use Rattle.x509_ext_points.specs.declared.issuing.IssuingDistributionPoint.{IssuingDistributionPoint}
pub use Rattle.x509_ext_points.specs.x509_ext_names.specs.declared.access.AuthorityInfoAccess.{AuthorityInfoAccess}
pub use Rattle.x509_ext_points.specs.x509_ext_names.specs.declared.alternative.IssuerAlternativeName.{IssuerAlternativeName}
pub use Rattle.x509_ext_points.specs.x509_ext_names.specs.declared.alternative.SubjectAlternativeName.{SubjectAlternativeName}
pub use Rattle.x509_ext_points.specs.x509_ext_names.specs.declared.constraints.NameConstraints.{NameConstraints}
pub use Rattle.x509_ext_points.specs.x509_ext_names.specs.declared.identifiers.AuthorityKeyIdentifier.{AuthorityKeyIdentifier}
pub use Rattle.x509_ext_basic.specs.declared.basic.BasicConstraints.{BasicConstraints}
pub use Rattle.x509_ext_basic.specs.x509_ext_flags.specs.declared.flags.KeyUsage.{KeyUsage}
pub use Rattle.x509_ext_basic.specs.x509_ext_flags.specs.declared.flags.NSCertType.{NSCertType}
pub use Rattle.x509_ext_basic.specs.x509_ext_flags.specs.declared.identifier.KeyIdentifier.{KeyIdentifier}
pub use Rattle.x509_ext_basic.specs.x509_ext_flags.specs.declared.policy.InhibitAnyPolicy.{InhibitAnyPolicy}
pub use Rattle.x509_ext_basic.specs.x509_ext_flags.specs.declared.policy.PolicyConstraints.{PolicyConstraints}
pub use Rattle.x509_ext_basic.specs.x509_ext_flags.specs.declared.reason.ReasonCode.{ReasonCode}
pub use Rattle.x509_ext_points.specs.x509_ext_policies.specs.declared.mappings.PolicyMappings.{PolicyMappings}
pub use Rattle.x509_ext_points.specs.x509_ext_policies.specs.declared.policies.PolicyInformation.{PolicyInformation}
pub use Rattle.x509_ext_points.specs.x509_ext_policies.specs.declared.purposes.ExtendedKeyUsage.{ExtendedKeyUsage}

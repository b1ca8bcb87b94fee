-- The words on extensions and on the parts that certificates, lists and requests share, for the crates above.
pub use Rattle.x509_ext.specs.Extensions.{X509Extension, IsBoolean, ExtensionParts, ExtensionList, Extensions, absent, there}
pub use Rattle.x509_ext.specs.Fields.{Extension, IsUnparsed, ValueMeaning, ValueReading, unread, meaning_of, reading_of}
pub use Rattle.x509_ext.specs.Parts.{IsNumber, IsVersion, X509Version, IsTaggedVersion, Version, version_absent, version_at_end, version_there, IsSerial, IsIdentifier, IsOtherHeader, UniqueIdentifier, id_at_end, id_absent, id_there}
pub use Rattle.x509_ext.specs.Values.{IsParsed, deeply, unparsed}
pub use Rattle.x509_ext.specs.View.{extension_view, identifier_view}
pub use Rattle.x509_ext.specs.declared.version.X509Version.{X509Version as HeldVersion}

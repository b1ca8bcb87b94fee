-- What each name means by which a reading of times, versions and extensions refuses octets (RFC 5280, 4.1). By a name that a
-- table leaves out nothing is refused.
use Rattle.std.specs.Prelude.{◌⊎◌, ℕ, List}
use Rattle.x509_core.specs.Grammar.{NoneBegins}
use Rattle.x509_core.specs.declared.error.X509Error.{X509Error}
use Rattle.x509_core.specs.declared.error.X509Error.TheVariants as errors
use Rattle.x509_time.specs.Times.{ASN1Time}
use Rattle.x509_time.specs.Updates.{NextUpdate}
use Rattle.x509_ext.specs.Extensions.{X509Extension}
use Rattle.x509_ext.specs.Fields.{ValueMeaning}
use Rattle.x509_ext.specs.Parts.{X509Version}
use Rattle.laws_x509.specs.Refused.{Then, Inside, NoWrapper, Never}

abbrev pub TimeRefused : X509Error → List ℕ → Type 0
TimeRefused errors.InvalidDate = NoneBegins ASN1Time
TimeRefused e = Never

-- a SEQUENCE that no time begins, or one after which no second time comes (RFC 5280, 4.1.2.5)
abbrev pub NoValidity : List ℕ → Type 0
NoValidity = Inside 16 (λ content. NoneBegins ASN1Time content ⊎ Then ASN1Time (NoneBegins ASN1Time) content)

abbrev pub ValidityRefused : X509Error → List ℕ → Type 0
ValidityRefused errors.InvalidDate = NoValidity
ValidityRefused e = Never

-- neither a time, nor that it is absent (RFC 5280, 5.1.2.5)
abbrev pub UpdateRefused : X509Error → List ℕ → Type 0
UpdateRefused errors.InvalidDate = NoneBegins NextUpdate
UpdateRefused e = Never

-- a version by itself, as a list or a request has it
abbrev pub VersionRefused : X509Error → List ℕ → Type 0
VersionRefused errors.InvalidVersion = NoneBegins X509Version
VersionRefused e = Never

-- an extension by itself (RFC 5280, 4.2)
abbrev pub ExtensionRefused : ValueMeaning → X509Error → List ℕ → Type 0
ExtensionRefused Means errors.InvalidExtensions = NoneBegins (X509Extension Means)
ExtensionRefused Means e = Never

-- Extensions under this tag number: octets are left, and no header of the tag number begins them. A list after such a header
-- that can't be read is refused by no name.
abbrev pub ExtensionsRefused : ℕ → X509Error → List ℕ → Type 0
ExtensionsRefused n errors.InvalidExtensions = NoWrapper n
ExtensionsRefused n e = Never

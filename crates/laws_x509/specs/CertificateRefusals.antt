-- What each name means by which a reading of a certificate refuses octets (RFC 5280, 4.1): the parts before one are there, and
-- it isn't. By a name that a table leaves out nothing is refused.
use Rattle.std.specs.Prelude.{◌⊎◌, ℕ, List}
use Rattle.x509_core.specs.Grammar.{NoneBegins, One}
use Rattle.x509_core.specs.declared.error.X509Error.{X509Error}
use Rattle.x509_core.specs.declared.error.X509Error.TheVariants as errors
use Rattle.x509_names.specs.Leaves.{IsBits}
use Rattle.x509_names.specs.Names.{AlgorithmIdentifier, X509Name, SubjectPublicKeyInfo}
use Rattle.x509_time.specs.Times.{Validity}
use Rattle.x509_ext.specs.Fields.{ValueMeaning}
use Rattle.x509_ext.specs.Parts.{Version, IsSerial, UniqueIdentifier}
use Rattle.x509_certs.specs.Certificates.{TbsCertificate}
use Rattle.laws_x509.specs.Refused.{Then, Inside, NoWrapper, Never}
use Rattle.laws_x509.specs.NameRefusals.{NoIdentifier, NoKeyBits}
use Rattle.laws_x509.specs.PartRefusals.{NoValidity}

-- ---- TBSCertificate: what comes after a part, and all parts before it

abbrev pub AfterSerial : (List ℕ → Type 0) → List ℕ → Type 0
AfterSerial Q = Then Version (Then (One IsSerial) Q)

abbrev pub AfterSignature : (List ℕ → Type 0) → List ℕ → Type 0
AfterSignature Q = AfterSerial (Then AlgorithmIdentifier Q)

abbrev pub AfterIssuer : (List ℕ → Type 0) → List ℕ → Type 0
AfterIssuer Q = AfterSignature (Then X509Name Q)

abbrev pub AfterSubject : (List ℕ → Type 0) → List ℕ → Type 0
AfterSubject Q = AfterIssuer (Then Validity (Then X509Name Q))

abbrev pub AfterKey : (List ℕ → Type 0) → List ℕ → Type 0
AfterKey Q = AfterSubject (Then SubjectPublicKeyInfo Q)

-- its content; by no name it is refused where issuer or subject can't be read, nor where extensions after their header can't
abbrev pub TbsPartsRefused : X509Error → List ℕ → Type 0
TbsPartsRefused errors.InvalidVersion = NoneBegins Version
TbsPartsRefused errors.InvalidSerial = Then Version (NoneBegins (One IsSerial))
TbsPartsRefused errors.InvalidAlgorithmIdentifier = λ octets. AfterSerial NoIdentifier octets ⊎ AfterSubject (Inside 16 NoIdentifier) octets
TbsPartsRefused errors.InvalidDate = AfterIssuer NoValidity
TbsPartsRefused errors.InvalidSPKI = AfterSubject NoKeyBits
TbsPartsRefused errors.InvalidIssuerUID = AfterKey (NoneBegins (UniqueIdentifier 1))
TbsPartsRefused errors.InvalidSubjectUID = AfterKey (Then (UniqueIdentifier 1) (NoneBegins (UniqueIdentifier 2)))
TbsPartsRefused errors.InvalidExtensions = AfterKey (Then (UniqueIdentifier 1) (Then (UniqueIdentifier 2) (NoWrapper 3)))
TbsPartsRefused e = Never

abbrev pub TbsRefused : X509Error → List ℕ → Type 0
TbsRefused e = Inside 16 (TbsPartsRefused e)

-- ---- Certificate

-- its content: the signed part is refused, or the algorithm or the bits that come after it
abbrev pub CertificatePartsRefused : ValueMeaning → X509Error → List ℕ → Type 0
CertificatePartsRefused Means errors.InvalidSignatureValue = Then (TbsCertificate Means) (Then AlgorithmIdentifier (NoneBegins (One IsBits)))
CertificatePartsRefused Means errors.InvalidAlgorithmIdentifier = λ octets. TbsRefused errors.InvalidAlgorithmIdentifier octets ⊎ Then (TbsCertificate Means) NoIdentifier octets
CertificatePartsRefused Means e = TbsRefused e

abbrev pub CertificateRefused : ValueMeaning → X509Error → List ℕ → Type 0
CertificateRefused Means e = Inside 16 (CertificatePartsRefused Means e)

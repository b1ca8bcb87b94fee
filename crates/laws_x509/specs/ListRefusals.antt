-- What each name means by which a reading of a revocation list refuses octets (RFC 5280, 5.1): the parts before one are there,
-- and it isn't. By a name that a table leaves out nothing is refused.
use Rattle.std.specs.Prelude.{◌⊎◌, ℕ, List}
use Rattle.x509_core.specs.Grammar.{NoneBegins, One, Maybe}
use Rattle.x509_core.specs.declared.error.X509Error.{X509Error}
use Rattle.x509_core.specs.declared.error.X509Error.TheVariants as errors
use Rattle.x509_names.specs.Leaves.{IsBits}
use Rattle.x509_names.specs.Names.{AlgorithmIdentifier, X509Name}
use Rattle.x509_time.specs.Times.{ASN1Time}
use Rattle.x509_time.specs.Updates.{NextUpdate}
use Rattle.x509_ext.specs.Fields.{ValueMeaning}
use Rattle.x509_ext.specs.Parts.{IsVersion, IsSerial}
use Rattle.x509_lists.specs.Lists.{RevokedCertificates, TbsCertList}
use Rattle.laws_x509.specs.Refused.{Then, Inside, NoWrapper, Never}
use Rattle.laws_x509.specs.NameRefusals.{NoIdentifier}

-- ---- an entry of revokedCertificates

abbrev pub EntryPartsRefused : X509Error → List ℕ → Type 0
EntryPartsRefused errors.InvalidSerial = NoneBegins (One IsSerial)
EntryPartsRefused errors.InvalidDate = Then (One IsSerial) (NoneBegins ASN1Time)
EntryPartsRefused e = Never

abbrev pub EntryRefused : X509Error → List ℕ → Type 0
EntryRefused e = Inside 16 (EntryPartsRefused e)

-- ---- TBSCertList: what comes after a part, and all parts before it

abbrev pub AfterIssuer : (List ℕ → Type 0) → List ℕ → Type 0
AfterIssuer Q = Then (Maybe (One IsVersion)) (Then AlgorithmIdentifier (Then X509Name Q))

abbrev pub AfterDates : (List ℕ → Type 0) → List ℕ → Type 0
AfterDates Q = AfterIssuer (Then ASN1Time (Then NextUpdate Q))

-- Its content. Entries that can't be read count as absent, and no wrapper begins them: they are refused as extensions.
abbrev pub TbsPartsRefused : ValueMeaning → X509Error → List ℕ → Type 0
TbsPartsRefused Means errors.InvalidAlgorithmIdentifier = Then (Maybe (One IsVersion)) NoIdentifier
TbsPartsRefused Means errors.InvalidDate = AfterIssuer (λ octets. NoneBegins ASN1Time octets ⊎ Then ASN1Time (NoneBegins NextUpdate) octets)
TbsPartsRefused Means errors.InvalidExtensions = AfterDates (Then (Maybe (RevokedCertificates Means)) (NoWrapper 0))
TbsPartsRefused Means e = Never

abbrev pub TbsListRefused : ValueMeaning → X509Error → List ℕ → Type 0
TbsListRefused Means e = Inside 16 (TbsPartsRefused Means e)

-- ---- CertificateList

-- its content: the signed part is refused, or the algorithm or the bits that come after it
abbrev pub ListPartsRefused : ValueMeaning → X509Error → List ℕ → Type 0
ListPartsRefused Means errors.InvalidSignatureValue = Then (TbsCertList Means) (Then AlgorithmIdentifier (NoneBegins (One IsBits)))
ListPartsRefused Means errors.InvalidAlgorithmIdentifier = λ octets. TbsListRefused Means errors.InvalidAlgorithmIdentifier octets ⊎ Then (TbsCertList Means) NoIdentifier octets
ListPartsRefused Means e = TbsListRefused Means e

abbrev pub ListRefused : ValueMeaning → X509Error → List ℕ → Type 0
ListRefused Means e = Inside 16 (ListPartsRefused Means e)

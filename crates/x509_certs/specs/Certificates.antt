-- What the lenient readers of certificates take (RFC 5280, 4.1). How the value of an extension is parsed is an argument.
use Rattle.std.specs.Prelude.{ℕ, List}
use Rattle.x509_core.specs.Grammar.{Grammar, One, WindowBox, WholeBox}
use Rattle.x509_names.specs.Leaves.{IsBits}
use Rattle.x509_names.specs.Names.{AlgorithmIdentifier, X509Name, SubjectPublicKeyInfo}
use Rattle.x509_time.specs.Times.{Validity}
use Rattle.x509_ext.specs.Extensions.{Extensions}
use Rattle.x509_ext.specs.Fields.{ValueMeaning}
use Rattle.x509_ext.specs.Parts.{Version, IsSerial, UniqueIdentifier}
use Rattle.x509_certs.specs.Fields.{Tbs, Certificate}

-- TBSCertificate ::= SEQUENCE { version [0] EXPLICIT Version DEFAULT v1, serialNumber CertificateSerialNumber,
-- signature AlgorithmIdentifier, issuer Name, validity Validity, subject Name, subjectPublicKeyInfo SubjectPublicKeyInfo,
-- issuerUniqueID [1] IMPLICIT UniqueIdentifier OPTIONAL, subjectUniqueID [2] IMPLICIT UniqueIdentifier OPTIONAL,
-- extensions [3] EXPLICIT Extensions OPTIONAL } (RFC 5280, 4.1)
pub record TbsParts (Means : ValueMeaning) (octets : List ℕ) (t : Tbs) (rest : List ℕ) : Type 0 where
  pub after_version : List ℕ
  pub version : Version octets t.version after_version
  pub after_serial : List ℕ
  pub serial : One IsSerial after_version t.serial after_serial
  pub after_signature : List ℕ
  pub signature : AlgorithmIdentifier after_serial t.signature after_signature
  pub after_issuer : List ℕ
  pub issuer : X509Name after_signature t.issuer after_issuer
  pub after_validity : List ℕ
  pub validity : Validity after_issuer t.validity after_validity
  pub after_subject : List ℕ
  pub subject : X509Name after_validity t.subject after_subject
  pub after_key : List ℕ
  pub key : SubjectPublicKeyInfo after_subject t.key after_key
  pub after_issuer_id : List ℕ
  pub issuer_id : UniqueIdentifier 1 after_key t.issuer_id after_issuer_id
  pub after_subject_id : List ℕ
  pub subject_id : UniqueIdentifier 2 after_issuer_id t.subject_id after_subject_id
  pub extensions : Extensions Means 3 after_subject_id t.extensions rest

-- its window ends where the extensions do, which is its end
abbrev pub TbsCertificate : ValueMeaning → Grammar Tbs
TbsCertificate Means = WindowBox 16 (TbsParts Means) (λ t. t.raw)

-- Certificate ::= SEQUENCE { tbsCertificate TBSCertificate, signatureAlgorithm AlgorithmIdentifier, signatureValue BIT STRING }
-- (RFC 5280, 4.1)
pub record CertificateParts (Means : ValueMeaning) (octets : List ℕ) (c : Certificate) (rest : List ℕ) : Type 0 where
  pub after_tbs : List ℕ
  pub tbs : TbsCertificate Means octets c.tbs after_tbs
  pub after_algorithm : List ℕ
  pub signature_algorithm : AlgorithmIdentifier after_tbs c.algorithm after_algorithm
  pub signature_value : One IsBits after_algorithm c.signature_value rest

-- its window is all of it, what is left of its content too
abbrev pub X509Certificate : ValueMeaning → Grammar Certificate
X509Certificate Means = WholeBox 16 (CertificateParts Means) (λ c. c.raw)

-- What the lenient readers of revocation lists take (RFC 5280, 5.1). How the value of an extension is parsed is an argument.
use Rattle.std.specs.Prelude.{◌≡◌, ℕ, List, [], Option, Some, None}
use Rattle.asn1_core.specs.Strict.{Head}
use Rattle.x509_core.specs.Grammar.{Grammar, Header, One, Box, WindowBox, WholeBox, ToEnd, Maybe}
use Rattle.x509_names.specs.Leaves.{IsBits}
use Rattle.x509_names.specs.Names.{AlgorithmIdentifier, X509Name}
use Rattle.x509_time.specs.Times.{ASN1Time}
use Rattle.x509_time.specs.Updates.{NextUpdate}
use Rattle.x509_ext.specs.Extensions.{ExtensionList, Extensions}
use Rattle.x509_ext.specs.Fields.{Extension, ValueMeaning}
use Rattle.x509_ext.specs.Parts.{IsVersion, IsSerial}
use Rattle.x509_lists.specs.Fields.{Entry, TbsList, RevocationList}

-- what isn't there holds nothing
abbrev pub or_none : {A : Type 0} → Option (List A) → List A
or_none None = []
or_none (Some vs) = vs

-- SEQUENCE { userCertificate CertificateSerialNumber, revocationDate Time, crlEntryExtensions Extensions OPTIONAL }
-- (RFC 5280, 5.1). Extensions that can't be read count as none, and are ignored with what is left.
pub record EntryParts (Means : ValueMeaning) (octets : List ℕ) (e : Entry) (rest : List ℕ) : Type 0 where
  pub after_serial : List ℕ
  pub user_certificate : One IsSerial octets e.serial after_serial
  pub after_date : List ℕ
  pub revocation_date : ASN1Time after_serial e.date after_date
  pub written : Option (List Extension)
  pub crl_entry_extensions : Maybe (ExtensionList Means) after_date written rest
  pub are_extensions : e.extensions ≡ or_none written

abbrev pub RevokedCertificate : ValueMeaning → Grammar Entry
RevokedCertificate Means = Box 16 (EntryParts Means)

-- revokedCertificates SEQUENCE OF SEQUENCE { .. } (RFC 5280, 5.1); an empty one is taken
abbrev pub RevokedCertificates : ValueMeaning → Grammar (List Entry)
RevokedCertificates Means = Box 16 (ToEnd (RevokedCertificate Means))

-- TBSCertList ::= SEQUENCE { version Version OPTIONAL, signature AlgorithmIdentifier, issuer Name, thisUpdate Time,
-- nextUpdate Time OPTIONAL, revokedCertificates SEQUENCE OF SEQUENCE { .. } OPTIONAL,
-- crlExtensions [0] EXPLICIT Extensions OPTIONAL } (RFC 5280, 5.1)
-- Entries that can't be read count as absent and are left there. Extensions can't come after them
-- then, but in their place.
pub record TbsParts (Means : ValueMeaning) (octets : List ℕ) (t : TbsList) (rest : List ℕ) : Type 0 where
  pub after_version : List ℕ
  pub version : Maybe (One IsVersion) octets t.version after_version
  pub after_signature : List ℕ
  pub signature : AlgorithmIdentifier after_version t.signature after_signature
  pub after_issuer : List ℕ
  pub issuer : X509Name after_signature t.issuer after_issuer
  pub after_this_update : List ℕ
  pub this_update : ASN1Time after_issuer t.this_update after_this_update
  pub after_next_update : List ℕ
  pub next_update : NextUpdate after_this_update t.next_update after_next_update
  pub written : Option (List Entry)
  pub after_entries : List ℕ
  pub revoked_certificates : Maybe (RevokedCertificates Means) after_next_update written after_entries
  pub are_entries : t.entries ≡ or_none written
  pub crl_extensions : Extensions Means 0 after_entries t.extensions rest

-- a header of tag number 0 is next, as the wrapper of a list's extensions has it
pub record BeginsWithWrapper (octets : List ℕ) : Type 0 where
  pub head : Head
  pub after_header : List ℕ
  pub header : Header octets head after_header
  pub tag : head.tag ≡ 0

-- its window ends where the extensions do, which is its end
abbrev pub TbsCertList : ValueMeaning → Grammar TbsList
TbsCertList Means = WindowBox 16 (TbsParts Means) (λ t. t.raw)

-- CertificateList ::= SEQUENCE { tbsCertList TBSCertList, signatureAlgorithm AlgorithmIdentifier, signatureValue BIT STRING }
-- (RFC 5280, 5.1)
pub record ListParts (Means : ValueMeaning) (octets : List ℕ) (l : RevocationList) (rest : List ℕ) : Type 0 where
  pub after_tbs : List ℕ
  pub tbs : TbsCertList Means octets l.tbs after_tbs
  pub after_algorithm : List ℕ
  pub signature_algorithm : AlgorithmIdentifier after_tbs l.algorithm after_algorithm
  pub signature_value : One IsBits after_algorithm l.signature_value rest

-- its window is all of it, what is left of its content too
abbrev pub CertificateRevocationList : ValueMeaning → Grammar RevocationList
CertificateRevocationList Means = WholeBox 16 (ListParts Means) (λ l. l.raw)

-- Octets written out by hand are what the relations say.
use Rattle.std.proofs.Common.{◌≡◌, ◌≢◌, refl, ℕ, ◌<◌, List, [], ◌∷◌, ◌++◌, false, true, None, lit<}
use Rattle.asn1_core.specs.Strict.{lead}
use Rattle.asn1_traits.specs.Integers.{twos_complement}
use Rattle.x509_core.specs.Grammar.{One, Holds, HoldsWindow, HoldsWhole, ToEnd, AsMany}
use Rattle.x509_core.proofs.Grammars.{none_at_end}
use Rattle.x509_core.proofs.Items.{tlv, piece, spelled, one, none_here, header_is}
use Rattle.x509_names.specs.Leaves.{IsOctets}
use Rattle.x509_names.specs.Examples.{algorithm_octets, empty_octets, key, key_octets}
use Rattle.x509_names.proofs.Items.{oid_is, bits_are, algorithm_is, key_is, empty_name_is}
use Rattle.x509_time.specs.Examples.{period_octets}
use Rattle.x509_time.proofs.Items.{period_is}
use Rattle.x509_ext.specs.Fields.{IsUnparsed}
use Rattle.x509_ext.specs.Extensions.{IsBoolean, ExtensionParts, X509Extension, ExtensionList, absent, there}
use Rattle.x509_ext.specs.Parts.{IsVersion, IsTaggedVersion, Version, version_absent, version_there, IsSerial, UniqueIdentifier, id_at_end, id_absent}
use Rattle.x509_certs.specs.Fields.{Certificate}
use Rattle.x509_certs.specs.Certificates.{TbsParts, TbsCertificate, CertificateParts, X509Certificate}
use Rattle.x509_certs.specs.Examples.{plain_signed, plain_octets, plain_tbs, plain, signature_octets, constrained_signed, constrained_octets, constraints, constrained_tbs, constrained}

-- a serial number 1 of this class
abbrev serial : ℕ → List ℕ
serial class = tlv class false 2 (0x01 ∷ [])

serial_is : (class : ℕ) (rest : List ℕ) → class < 4 → One IsSerial (serial class ++ rest) (0x01 ∷ []) rest
serial_is class rest in_class = one IsSerial class false 2 (0x01 ∷ []) (0x01 ∷ []) rest in_class (lit< tt) (lit< tt) (record { tag = refl; content = refl })

no_version : (class : ℕ) (rest : List ℕ) → class < 4 → Version (serial class ++ rest) 0 (serial class ++ rest)
no_version class rest in_class =
    version_absent (record {
      piece = piece class false 2 (0x01 ∷ []);
      rest = rest;
      begins = one (λ p q. q ≡ p) class false 2 (0x01 ∷ []) (piece class false 2 (0x01 ∷ [])) rest in_class (lit< tt) (lit< tt) refl;
      tag = λ e. cc e;
    }) refl refl

-- what comes after the subject's key, the issuer's name and so on, up to the serial number
abbrev from_key : List ℕ → List ℕ
from_key rest = key_octets ++ rest

abbrev from_subject : List ℕ → List ℕ
from_subject rest = empty_octets ++ from_key rest

abbrev from_validity : List ℕ → List ℕ
from_validity rest = period_octets ++ from_subject rest

abbrev from_issuer : List ℕ → List ℕ
from_issuer rest = empty_octets ++ from_validity rest

abbrev from_signature : List ℕ → List ℕ
from_signature rest = algorithm_octets ++ from_issuer rest

-- ---- without extensions

plain_parts : (class : ℕ) → class < 4 → TbsParts IsUnparsed (serial class ++ from_signature []) (plain_tbs (lead class false 2)) []
plain_parts class in_class = record {
  after_version = serial class ++ from_signature [];
  version = no_version class (from_signature []) in_class;
  after_serial = from_signature [];
  serial = serial_is class (from_signature []) in_class;
  after_signature = from_issuer [];
  signature = algorithm_is (from_issuer []);
  after_issuer = from_validity [];
  issuer = empty_name_is (from_validity []);
  after_validity = from_subject [];
  validity = period_is (from_subject []);
  after_subject = from_key [];
  subject = empty_name_is (from_key []);
  after_key = [];
  key = key_is [];
  after_issuer_id = [];
  issuer_id = id_at_end refl refl refl;
  after_subject_id = [];
  subject_id = id_at_end refl refl refl;
  extensions = absent refl refl refl;
}

plain_tbs_is : (class : ℕ) (rest : List ℕ) → class < 4 → TbsCertificate IsUnparsed (plain_signed (lead class false 2) ++ rest) (plain_tbs (lead class false 2)) rest
plain_tbs_is class rest in_class =
    one (HoldsWindow 16 (TbsParts IsUnparsed) (λ t. t.raw)) 0 true 16 (serial class ++ from_signature []) (plain_tbs (lead class false 2)) rest (lit< tt) (lit< tt) (lit< tt)
    (record { left = []; inside = record { tag = refl; inner = plain_parts class in_class }; window = refl })

-- a signed part, an algorithm and no bits
signed : (c : Certificate) (octets : List ℕ) → ((rest : List ℕ) → TbsCertificate IsUnparsed (octets ++ rest) c.tbs rest) → ◌≡◌ {A = _} c.algorithm key.algorithm → c.signature_value ≡ key.key
    → CertificateParts IsUnparsed (octets ++ signature_octets) c []
signed c octets tbs algorithm bits = record {
  after_tbs = signature_octets;
  tbs = tbs signature_octets;
  after_algorithm = 0x03 ∷ 0x01 ∷ 0x00 ∷ [];
  signature_algorithm = rw algorithm (algorithm_is (0x03 ∷ 0x01 ∷ 0x00 ∷ []));
  signature_value = rw bits (bits_are []);
}

plain_of : (class : ℕ) (rest : List ℕ) → class < 4 → X509Certificate IsUnparsed (plain_octets (lead class false 2) ++ rest) (plain (lead class false 2)) rest
plain_of class rest in_class =
    one (HoldsWhole 16 (CertificateParts IsUnparsed) (λ c. c.raw)) 0 true 16 (plain_signed (lead class false 2) ++ signature_octets) (plain (lead class false 2)) rest (lit< tt) (lit< tt) (lit< tt)
    (record { inside = ([], record { tag = refl; inner = signed (plain (lead class false 2)) (plain_signed (lead class false 2)) (λ z. plain_tbs_is class z in_class) refl refl }); window = refl })

pub plain_is : (rest : List ℕ) → X509Certificate IsUnparsed (plain_octets 0x02 ++ rest) (plain 0x02) rest
plain_is rest = plain_of 0 rest (lit< tt)

pub other_class_is : (rest : List ℕ) → X509Certificate IsUnparsed (plain_octets 0x82 ++ rest) (plain 0x82) rest
other_class_is rest = plain_of 2 rest (lit< tt)

-- ---- with one extension

abbrev id_octets : List ℕ
id_octets = tlv 0 false 6 (0x55 ∷ 0x1d ∷ 0x13 ∷ [])

abbrev value_octets : List ℕ
value_octets = tlv 0 false 4 (0x30 ∷ 0x00 ∷ [])

abbrev extension_octets : List ℕ
extension_octets = tlv 0 true 16 (id_octets ++ value_octets)

abbrev list_octets : List ℕ
list_octets = tlv 0 true 16 extension_octets

extension_is : (rest : List ℕ) → X509Extension IsUnparsed (extension_octets ++ rest) constraints rest
extension_is rest = one (Holds 16 (ExtensionParts IsUnparsed)) 0 true 16 (id_octets ++ value_octets) constraints rest (lit< tt) (lit< tt) (lit< tt) (
  [],
  record {
    tag = refl;
    inner = record {
      after_id = value_octets;
      extn_id = oid_is (0x55 ∷ 0x1d ∷ 0x13 ∷ []) value_octets (lit< tt);
      written = None;
      after_critical = value_octets;
      critical = (refl, none_here IsBoolean (piece 0 false 4 (0x30 ∷ 0x00 ∷ [])) [] (spelled 0 false 4 (0x30 ∷ 0x00 ∷ []) (lit< tt) (lit< tt) (lit< tt)) (λ v m. cc m.leaf.tag_is));
      is_critical = refl;
      extn_value = one IsOctets 0 false 4 (0x30 ∷ 0x00 ∷ []) (0x30 ∷ 0x00 ∷ []) [] (lit< tt) (lit< tt) (lit< tt) (record { leaf = record { tag_is = refl; primitive = refl }; meant = refl });
      parsed = refl;
    };
  },
)

extensions_are : ExtensionList IsUnparsed list_octets (constraints ∷ []) []
unfolding AsMany
extensions_are = one (Holds 16 (ToEnd (X509Extension IsUnparsed))) 0 true 16 extension_octets (constraints ∷ []) [] (lit< tt) (lit< tt) (lit< tt) (
  [],
  record {
    tag = refl;
    inner = (([], extension_is [], (refl, none_at_end (Holds 16 (ExtensionParts IsUnparsed)))), refl);
  },
)

abbrev version_octets : List ℕ
version_octets = tlv 2 true 0 (tlv 0 false 2 (0x02 ∷ []))

third_version : (rest : List ℕ) → Version (version_octets ++ rest) 2 rest
unfolding twos_complement
third_version rest = version_there (one IsTaggedVersion 2 true 0 (tlv 0 false 2 (0x02 ∷ [])) 2 rest (lit< tt) (lit< tt) (lit< tt) (record {
  class = refl;
  tag = refl;
  left = [];
  number = one IsVersion 0 false 2 (0x02 ∷ []) 2 [] (lit< tt) (lit< tt) (lit< tt) (record {
    leaf = record { tag_is = refl; primitive = refl };
    meant = record { shortest = tt; value = record { some = λ e. cc e; value = refl }; small = lit< tt };
  });
}))

-- the wrapper's header says so many octets
abbrev wrapper : ℕ → List ℕ
wrapper size = 0xa3 ∷ size ∷ list_octets

no_id : (n size : ℕ) → 3 ≢ n → size < 128 → UniqueIdentifier n (wrapper size) None (wrapper size)
no_id n size other short =
    id_absent (record {
      head = record { class = 2; constructed = true; tag = 3; size = size };
      after = list_octets;
      header = header_is 2 true 3 size list_octets (lit< tt) (lit< tt) short;
      tag = other;
    }) refl refl

constrained_parts : (size : ℕ) → size < 128 → TbsParts IsUnparsed (version_octets ++ (serial 0 ++ from_signature (wrapper size))) (constrained_tbs size) []
constrained_parts size short = record {
  after_version = serial 0 ++ from_signature (wrapper size);
  version = third_version (serial 0 ++ from_signature (wrapper size));
  after_serial = from_signature (wrapper size);
  serial = serial_is 0 (from_signature (wrapper size)) (lit< tt);
  after_signature = from_issuer (wrapper size);
  signature = algorithm_is (from_issuer (wrapper size));
  after_issuer = from_validity (wrapper size);
  issuer = empty_name_is (from_validity (wrapper size));
  after_validity = from_subject (wrapper size);
  validity = period_is (from_subject (wrapper size));
  after_subject = from_key (wrapper size);
  subject = empty_name_is (from_key (wrapper size));
  after_key = wrapper size;
  key = key_is (wrapper size);
  after_issuer_id = wrapper size;
  issuer_id = no_id 1 size (λ e. cc e) short;
  after_subject_id = wrapper size;
  subject_id = no_id 2 size (λ e. cc e) short;
  extensions = there (record {
    head = record { class = 2; constructed = true; tag = 3; size = size };
    after_header = list_octets;
    header = header_is 2 true 3 size list_octets (lit< tt) (lit< tt) short;
    tag = refl;
    list = extensions_are;
  }) refl;
}

constrained_tbs_is : (size : ℕ) (rest : List ℕ) → size < 128 → TbsCertificate IsUnparsed (constrained_signed size ++ rest) (constrained_tbs size) rest
constrained_tbs_is size rest short =
    one (HoldsWindow 16 (TbsParts IsUnparsed) (λ t. t.raw)) 0 true 16 (version_octets ++ (serial 0 ++ from_signature (wrapper size))) (constrained_tbs size) rest (lit< tt) (lit< tt) (lit< tt)
    (record { left = []; inside = record { tag = refl; inner = constrained_parts size short }; window = refl })

pub constrained_is : (size : ℕ) (rest : List ℕ) → size < 128 → X509Certificate IsUnparsed (constrained_octets size ++ rest) (constrained size) rest
constrained_is size rest short =
    one (HoldsWhole 16 (CertificateParts IsUnparsed) (λ c. c.raw)) 0 true 16 (constrained_signed size ++ signature_octets) (constrained size) rest (lit< tt) (lit< tt) (lit< tt)
    (record { inside = ([], record { tag = refl; inner = signed (constrained size) (constrained_signed size) (λ z. constrained_tbs_is size z short) refl refl }); window = refl })

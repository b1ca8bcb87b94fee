-- Octets and what they are, written out by hand: they try the relations, not the code.
use Rattle.std.specs.Prelude.{ℕ, false, List, [], ◌∷◌, ◌++◌, None}
use Rattle.x509_names.specs.Examples.{algorithm, empty_name, key}
use Rattle.x509_time.specs.Examples.{period}
use Rattle.x509_ext.specs.Values.{unparsed}
use Rattle.x509_ext.specs.Fields.{Extension}
use Rattle.x509_certs.specs.Fields.{Tbs, Certificate}

-- A certificate of version 1 and serial number 1 with empty names, valid in 2025. The first octet of the serial number is an
-- argument: 02, or 82, which begins a context-specific element of tag number 2.
abbrev pub plain_signed : ℕ → List ℕ
plain_signed identifier =
    0x30 ∷ 0x38 ∷ identifier ∷
    0x01 ∷ 0x01 ∷ 0x30 ∷ 0x04 ∷ 0x06 ∷ 0x02 ∷ 0x2a ∷ 0x03 ∷ 0x30 ∷ 0x00 ∷ 0x30 ∷ 0x1e ∷ 0x17 ∷ 0x0d ∷ 0x32 ∷ 0x35 ∷ 0x30 ∷ 0x31 ∷ 0x30 ∷ 0x31 ∷ 0x30 ∷ 0x30 ∷
    0x30 ∷ 0x30 ∷ 0x30 ∷ 0x30 ∷ 0x5a ∷ 0x17 ∷ 0x0d ∷ 0x32 ∷ 0x36 ∷ 0x30 ∷ 0x31 ∷ 0x30 ∷ 0x31 ∷ 0x30 ∷ 0x30 ∷ 0x30 ∷ 0x30 ∷ 0x30 ∷ 0x30 ∷ 0x5a ∷ 0x30 ∷ 0x00 ∷
    0x30 ∷ 0x09 ∷ 0x30 ∷ 0x04 ∷ 0x06 ∷ 0x02 ∷ 0x2a ∷ 0x03 ∷ 0x03 ∷ 0x01 ∷ 0x00 ∷ []

-- an algorithm and no bits
abbrev pub signature_octets : List ℕ
signature_octets = 0x30 ∷ 0x04 ∷ 0x06 ∷ 0x02 ∷ 0x2a ∷ 0x03 ∷ 0x03 ∷ 0x01 ∷ 0x00 ∷ []

abbrev pub plain_octets : ℕ → List ℕ
plain_octets identifier = 0x30 ∷ 0x43 ∷ plain_signed identifier ++ signature_octets

abbrev pub plain_tbs : ℕ → Tbs
plain_tbs identifier = record {
  version = 0;
  serial = 0x01 ∷ [];
  signature = algorithm;
  issuer = empty_name;
  validity = period;
  subject = empty_name;
  key = key;
  issuer_id = None;
  subject_id = None;
  extensions = [];
  raw = plain_signed identifier;
}

abbrev pub plain : ℕ → Certificate
plain identifier = record { tbs = plain_tbs identifier; algorithm = algorithm; signature_value = key.key; raw = plain_octets identifier }

-- A certificate of version 3, with one extension: basic constraints (2.5.29.19), an empty sequence.
-- The length of the wrapper is an argument: it is 0d if it is right, and isn't used.
abbrev pub constrained_signed : ℕ → List ℕ
constrained_signed size =
    0x30 ∷ 0x4c ∷ 0xa0 ∷ 0x03 ∷ 0x02 ∷ 0x01 ∷ 0x02 ∷ 0x02 ∷ 0x01 ∷ 0x01 ∷ 0x30 ∷ 0x04 ∷ 0x06 ∷ 0x02 ∷ 0x2a ∷ 0x03 ∷ 0x30 ∷ 0x00 ∷ 0x30 ∷ 0x1e ∷ 0x17 ∷ 0x0d ∷
    0x32 ∷ 0x35 ∷ 0x30 ∷ 0x31 ∷ 0x30 ∷ 0x31 ∷ 0x30 ∷ 0x30 ∷ 0x30 ∷ 0x30 ∷ 0x30 ∷ 0x30 ∷ 0x5a ∷ 0x17 ∷ 0x0d ∷ 0x32 ∷ 0x36 ∷ 0x30 ∷ 0x31 ∷ 0x30 ∷ 0x31 ∷ 0x30 ∷
    0x30 ∷ 0x30 ∷ 0x30 ∷ 0x30 ∷ 0x30 ∷ 0x5a ∷ 0x30 ∷ 0x00 ∷ 0x30 ∷ 0x09 ∷ 0x30 ∷ 0x04 ∷ 0x06 ∷ 0x02 ∷ 0x2a ∷ 0x03 ∷ 0x03 ∷ 0x01 ∷ 0x00 ∷ 0xa3 ∷ size ∷
    0x30 ∷ 0x0b ∷ 0x30 ∷ 0x09 ∷ 0x06 ∷ 0x03 ∷ 0x55 ∷ 0x1d ∷ 0x13 ∷ 0x04 ∷ 0x02 ∷ 0x30 ∷ 0x00 ∷ []

abbrev pub constrained_octets : ℕ → List ℕ
constrained_octets size = 0x30 ∷ 0x57 ∷ constrained_signed size ++ signature_octets

abbrev pub constraints : Extension
constraints = record { identifier = 0x55 ∷ 0x1d ∷ 0x13 ∷ []; critical = false; value = 0x30 ∷ 0x00 ∷ []; parsed = unparsed }

abbrev pub constrained_tbs : ℕ → Tbs
constrained_tbs size = record (plain_tbs 0x02) { version = 2; extensions = constraints ∷ []; raw = constrained_signed size }

abbrev pub constrained : ℕ → Certificate
constrained size =
    record { tbs = constrained_tbs size; algorithm = algorithm; signature_value = key.key; raw = constrained_octets size }

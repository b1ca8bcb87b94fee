-- Octets and what they are, written out by hand: they try the relations, not the code.
use Rattle.std.specs.Prelude.{ℕ, List, [], ◌∷◌, false, None}
use Rattle.x509_names.specs.Fields.{Algorithm, Attribute, Name, Key, RsaKey}

-- 1.2.3, without parameters
abbrev pub algorithm : Algorithm
algorithm = record { identifier = 0x2a ∷ 0x03 ∷ []; parameters = None }

abbrev pub algorithm_octets : List ℕ
algorithm_octets = 0x30 ∷ 0x04 ∷ 0x06 ∷ 0x02 ∷ 0x2a ∷ 0x03 ∷ []

-- a key of no bits
abbrev pub key_octets : List ℕ
key_octets = 0x30 ∷ 0x09 ∷ 0x30 ∷ 0x04 ∷ 0x06 ∷ 0x02 ∷ 0x2a ∷ 0x03 ∷ 0x03 ∷ 0x01 ∷ 0x00 ∷ []

abbrev pub key : Key
key = record { algorithm = algorithm; key = record { unused = 0; octets = [] }; raw = key_octets }

abbrev pub empty_octets : List ℕ
empty_octets = 0x30 ∷ 0x00 ∷ []

abbrev pub empty_name : Name
empty_name = record { sets = []; raw = empty_octets }

-- a name that ends before an empty set, and so does its window
abbrev pub stopped_octets : List ℕ
stopped_octets = 0x30 ∷ 0x02 ∷ 0x31 ∷ 0x00 ∷ []

abbrev pub stopped_name : Name
stopped_name = record { sets = []; raw = 0x30 ∷ 0x02 ∷ [] }

-- a name of one set of one attribute: commonName (2.5.4.3), b as UTF8String
abbrev pub common_name : Attribute
common_name = record { identifier = 0x55 ∷ 0x04 ∷ 0x03 ∷ []; value = record { class = 0; constructed = false; tag = 12; content = 0x62 ∷ [] } }

abbrev pub name_octets : List ℕ
name_octets = 0x30 ∷ 0x0c ∷ 0x31 ∷ 0x0a ∷ 0x30 ∷ 0x08 ∷ 0x06 ∷ 0x03 ∷ 0x55 ∷ 0x04 ∷ 0x03 ∷ 0x0c ∷ 0x01 ∷ 0x62 ∷ []

abbrev pub name : Name
name = record { sets = (common_name ∷ []) ∷ []; raw = name_octets }

-- modulus 3, exponent 3
abbrev pub rsa_octets : List ℕ
rsa_octets = 0x30 ∷ 0x06 ∷ 0x02 ∷ 0x01 ∷ 0x03 ∷ 0x02 ∷ 0x01 ∷ 0x03 ∷ []

abbrev pub rsa_key : RsaKey
rsa_key = record { modulus = 0x03 ∷ []; exponent = 0x03 ∷ [] }

-- Octets that are refused, written out by hand: they try the tables, not the code.
use Rattle.std.specs.Prelude.{ℕ, List, [], ◌∷◌, ◌++◌}
use Rattle.x509_names.specs.Examples.{algorithm_octets, empty_octets, key_octets}
use Rattle.x509_time.specs.Examples.{start_octets, period_octets}

-- ---- parts

-- an empty SEQUENCE: an algorithm without its identifier, a validity without its first time, no time and no RSA key
abbrev pub empty : List ℕ
empty = 0x30 ∷ 0x00 ∷ []

-- an attribute of a type, 1.2.3, and no value
abbrev pub no_value : List ℕ
no_value = 0x30 ∷ 0x04 ∷ 0x06 ∷ 0x02 ∷ 0x2a ∷ 0x03 ∷ []

-- a key whose algorithm has no identifier
abbrev pub no_key_algorithm : List ℕ
no_key_algorithm = 0x30 ∷ 0x02 ∷ empty

-- a key of an algorithm and no bits
abbrev pub no_key_bits : List ℕ
no_key_bits = 0x30 ∷ 0x06 ∷ algorithm_octets

-- a validity of one time
abbrev pub no_end : List ℕ
no_end = 0x30 ∷ 0x0f ∷ start_octets

-- a constructed UTCTime
abbrev pub constructed_time : List ℕ
constructed_time = 0x37 ∷ 0x00 ∷ []

-- an empty context-specific element of tag number 4
abbrev pub other_wrapper : List ℕ
other_wrapper = 0xa4 ∷ 0x00 ∷ []

-- ---- certificates

-- what comes before a part: a serial number, an algorithm, an empty name, a validity, an empty name, a key
abbrev pub before_signature : List ℕ
before_signature = 0x02 ∷ 0x01 ∷ 0x01 ∷ []

abbrev pub before_issuer : List ℕ
before_issuer = before_signature ++ algorithm_octets

abbrev pub before_validity : List ℕ
before_validity = before_issuer ++ empty_octets

abbrev pub before_key : List ℕ
before_key = before_validity ++ period_octets ++ empty_octets

abbrev pub before_ids : List ℕ
before_ids = before_key ++ key_octets

-- an empty [0]
abbrev pub no_version : List ℕ
no_version = 0x30 ∷ 0x02 ∷ 0xa0 ∷ 0x00 ∷ []

-- nothing
abbrev pub no_serial : List ℕ
no_serial = 0x30 ∷ 0x00 ∷ []

abbrev pub no_signature : List ℕ
no_signature = 0x30 ∷ 0x05 ∷ before_signature ++ empty

abbrev pub no_validity : List ℕ
no_validity = 0x30 ∷ 0x0d ∷ before_validity ++ empty

abbrev pub no_certified_algorithm : List ℕ
no_certified_algorithm = 0x30 ∷ 0x31 ∷ before_key ++ no_key_algorithm

abbrev pub no_certified_bits : List ℕ
no_certified_bits = 0x30 ∷ 0x35 ∷ before_key ++ no_key_bits

-- an empty [1] and an empty [2]: their first octet, how many bits are unused, is missing (X.690, 8.6.2)
abbrev pub no_issuer_id : List ℕ
no_issuer_id = 0x30 ∷ 0x3a ∷ before_ids ++ 0x81 ∷ 0x00 ∷ []

abbrev pub no_subject_id : List ℕ
no_subject_id = 0x30 ∷ 0x3a ∷ before_ids ++ 0x82 ∷ 0x00 ∷ []

-- an empty [4] in the place of [3]
abbrev pub no_extensions : List ℕ
no_extensions = 0x30 ∷ 0x3a ∷ before_ids ++ other_wrapper

-- a signed part of such parts
abbrev pub signed : List ℕ
signed = 0x30 ∷ 0x38 ∷ before_ids

-- and nothing but an algorithm after it
abbrev pub no_signature_value : List ℕ
no_signature_value = 0x30 ∷ 0x40 ∷ signed ++ algorithm_octets

-- and an algorithm without its identifier
abbrev pub no_signature_algorithm : List ℕ
no_signature_algorithm = 0x30 ∷ 0x3c ∷ signed ++ empty

-- a certificate whose signed part has no serial number
abbrev pub unnumbered : List ℕ
unnumbered = 0x30 ∷ 0x02 ∷ no_serial

-- ---- revocation lists

-- an entry of a serial number and no date
abbrev pub no_entry_date : List ℕ
no_entry_date = 0x30 ∷ 0x03 ∷ before_signature

-- what comes before the dates: an algorithm and an empty name
abbrev pub before_dates : List ℕ
before_dates = algorithm_octets ++ empty_octets

abbrev pub no_list_algorithm : List ℕ
no_list_algorithm = 0x30 ∷ 0x02 ∷ empty

abbrev pub no_date : List ℕ
no_date = 0x30 ∷ 0x08 ∷ before_dates

-- an empty [4] in the place of entries and of [0]
abbrev pub no_list_extensions : List ℕ
no_list_extensions = 0x30 ∷ 0x19 ∷ before_dates ++ start_octets ++ other_wrapper

-- a signed part of such parts
abbrev pub signed_list : List ℕ
signed_list = 0x30 ∷ 0x17 ∷ before_dates ++ start_octets

-- and nothing but an algorithm after it
abbrev pub no_list_bits : List ℕ
no_list_bits = 0x30 ∷ 0x1f ∷ signed_list ++ algorithm_octets

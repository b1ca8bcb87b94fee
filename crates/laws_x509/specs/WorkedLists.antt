-- Revocation lists without entries, written out by hand (RFC 5280, 5.1): they try the laws'
-- definitions, not the code.
use Rattle.std.specs.Prelude.{ℕ, false, List, [], ◌∷◌, ◌++◌, Some, None}
use Rattle.x509_names.specs.Examples.{algorithm, empty_name, key}
use Rattle.x509_time.specs.Examples.{start, start_octets, end, end_octets}
use Rattle.x509_ext.specs.Values.{unparsed}
use Rattle.x509_ext.specs.Fields.{Extension}
use Rattle.x509_certs.specs.Examples.{signature_octets}
use Rattle.x509_lists.specs.Fields.{TbsList, RevocationList}
use Rattle.laws_x509.specs.RefusedOctets.{before_dates, signed_list}

-- a signed part, an algorithm and no bits
abbrev pub list_of : TbsList → List ℕ → RevocationList
list_of t raw = record { tbs = t; algorithm = algorithm; signature_value = key.key; raw = raw }

-- ---- a list that ends with its update, the beginning of 2025

abbrev pub ended_content : List ℕ
ended_content = before_dates ++ start_octets

abbrev pub ended_tbs : TbsList
ended_tbs = record { version = None; signature = algorithm; issuer = empty_name; this_update = start; next_update = None; entries = []; extensions = []; raw = signed_list }

abbrev pub ended_octets : List ℕ
ended_octets = 0x30 ∷ 0x22 ∷ signed_list ++ signature_octets

abbrev pub ended : RevocationList
ended = list_of ended_tbs ended_octets

-- ---- a list of version 2, with a next update, the beginning of 2026, and then extensions

-- cRLNumber (2.5.29.20) 1
abbrev pub number : Extension
number = record { identifier = 0x55 ∷ 0x1d ∷ 0x14 ∷ []; critical = false; value = 0x02 ∷ 0x01 ∷ 0x01 ∷ []; parsed = unparsed }

abbrev pub wrapper_octets : List ℕ
wrapper_octets = 0xa0 ∷ 0x0e ∷ 0x30 ∷ 0x0c ∷ 0x30 ∷ 0x0a ∷ 0x06 ∷ 0x03 ∷ 0x55 ∷ 0x1d ∷ 0x14 ∷ 0x04 ∷ 0x03 ∷ 0x02 ∷ 0x01 ∷ 0x01 ∷ []

abbrev pub numbered_content : List ℕ
numbered_content = 0x02 ∷ 0x01 ∷ 0x01 ∷ before_dates ++ start_octets ++ end_octets ++ wrapper_octets

abbrev pub numbered_signed : List ℕ
numbered_signed = 0x30 ∷ 0x39 ∷ numbered_content

abbrev pub numbered_tbs : TbsList
numbered_tbs = record {
  version = Some 1;
  signature = algorithm;
  issuer = empty_name;
  this_update = start;
  next_update = Some end;
  entries = [];
  extensions = number ∷ [];
  raw = numbered_signed;
}

abbrev pub numbered_octets : List ℕ
numbered_octets = 0x30 ∷ 0x44 ∷ numbered_signed ++ signature_octets

abbrev pub numbered : RevocationList
numbered = list_of numbered_tbs numbered_octets

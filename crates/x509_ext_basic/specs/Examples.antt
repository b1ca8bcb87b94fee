-- Octets and what they are, written out by hand: they try the relations, not the code.
use Rattle.std.specs.Prelude.{ℕ, List, [], ◌∷◌, true, false, Some, None}
use Rattle.x509_ext_basic.specs.Values.{BasicConstraints}

-- cA is true, and no certificate may be between
abbrev pub constraints_octets : List ℕ
constraints_octets = 0x30 ∷ 0x06 ∷ 0x01 ∷ 0x01 ∷ 0xff ∷ 0x02 ∷ 0x01 ∷ 0x00 ∷ []

abbrev pub constraints : BasicConstraints
constraints = record { ca = true; path_len_constraint = Some 0 }

-- both parts are absent
abbrev pub none_octets : List ℕ
none_octets = 0x30 ∷ 0x00 ∷ []

abbrev pub none : BasicConstraints
none = record { ca = false; path_len_constraint = None }

-- the number 3
abbrev pub number_octets : List ℕ
number_octets = 0x02 ∷ 0x01 ∷ 0x03 ∷ []

-- the reason 3, affiliationChanged
abbrev pub reason_octets : List ℕ
reason_octets = 0x0a ∷ 0x01 ∷ 0x03 ∷ []

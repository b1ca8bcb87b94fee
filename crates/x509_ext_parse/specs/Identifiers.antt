-- The identifiers of extensions whose values are known, as content octets (RFC 5280, 4.2, 5.2 and 5.3; RFC 6962, 3.3).
use Rattle.std.specs.Prelude.{ℕ, List, [], ◌∷◌}

-- id-ce, 2.5.29, and one arc more
abbrev pub id_ce : ℕ → List ℕ
id_ce n = 0x55 ∷ 0x1d ∷ n ∷ []

-- id-pe, 1.3.6.1.5.5.7.1, and one arc more
abbrev pub id_pe : ℕ → List ℕ
id_pe n = 0x2b ∷ 0x06 ∷ 0x01 ∷ 0x05 ∷ 0x05 ∷ 0x07 ∷ 0x01 ∷ n ∷ []

-- the list of timestamps, 1.3.6.1.4.1.11129.2.4.2
abbrev pub timestamp_list : List ℕ
timestamp_list = 0x2b ∷ 0x06 ∷ 0x01 ∷ 0x04 ∷ 0x01 ∷ 0xd6 ∷ 0x79 ∷ 0x02 ∷ 0x04 ∷ 0x02 ∷ []

-- Netscape's extensions, 2.16.840.1.113730.1, and one arc more
abbrev pub netscape : ℕ → List ℕ
netscape n = 0x60 ∷ 0x86 ∷ 0x48 ∷ 0x01 ∷ 0x86 ∷ 0xf8 ∷ 0x42 ∷ 0x01 ∷ n ∷ []

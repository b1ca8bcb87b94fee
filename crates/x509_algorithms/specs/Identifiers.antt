-- The identifiers that this crate knows, as their content octets (X.690, 8.19).
use Rattle.std.specs.Prelude.{ℕ, List, [], ◌∷◌, ◌++◌}

-- 1.2.840.113549.1.1 (RFC 8017, appendix C)
abbrev pub pkcs_1 : List ℕ
pkcs_1 = 0x2a ∷ 0x86 ∷ 0x48 ∷ 0x86 ∷ 0xf7 ∷ 0x0d ∷ 0x01 ∷ 0x01 ∷ []

-- 1.2.840.113549.1.1.8
abbrev pub mgf1 : List ℕ
mgf1 = pkcs_1 ++ 8 ∷ []

-- 1.2.840.113549.1.1.9
abbrev pub p_specified : List ℕ
p_specified = pkcs_1 ++ 9 ∷ []

-- 1.2.840.113549.1.1.10
abbrev pub rsassa_pss_id : List ℕ
rsassa_pss_id = pkcs_1 ++ 10 ∷ []

-- 1.2.840.10045.4 (RFC 3279, 2.2.3)
abbrev pub ansi_x962_signatures : List ℕ
ansi_x962_signatures = 0x2a ∷ 0x86 ∷ 0x48 ∷ 0xce ∷ 0x3d ∷ 0x04 ∷ []

-- 1.2.840.10040.4 (RFC 3279, 2.2.2)
abbrev pub x9_57 : List ℕ
x9_57 = 0x2a ∷ 0x86 ∷ 0x48 ∷ 0xce ∷ 0x38 ∷ 0x04 ∷ []

-- 1.3.101.112 (RFC 8410, 3)
abbrev pub ed25519_id : List ℕ
ed25519_id = 0x2b ∷ 0x65 ∷ 0x70 ∷ []

-- 1.3.14.3.2.26 (RFC 3279, 2.1)
abbrev pub sha1 : List ℕ
sha1 = 0x2b ∷ 0x0e ∷ 0x03 ∷ 0x02 ∷ 0x1a ∷ []

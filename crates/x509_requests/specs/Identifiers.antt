-- The attributes that are known, by the content octets of their identifiers.
use Rattle.std.specs.Prelude.{ℕ, List, [], ◌∷◌}

-- extensionRequest, 1.2.840.113549.1.9.14 (RFC 2985, 5.4.2)
abbrev pub extension_request_id : List ℕ
extension_request_id = 0x2a ∷ 0x86 ∷ 0x48 ∷ 0x86 ∷ 0xf7 ∷ 0x0d ∷ 0x01 ∷ 0x09 ∷ 0x0e ∷ []

-- challengePassword, 1.2.840.113549.1.9.7 (RFC 2985, 5.4.1)
abbrev pub challenge_password_id : List ℕ
challenge_password_id = 0x2a ∷ 0x86 ∷ 0x48 ∷ 0x86 ∷ 0xf7 ∷ 0x0d ∷ 0x01 ∷ 0x09 ∷ 0x07 ∷ []

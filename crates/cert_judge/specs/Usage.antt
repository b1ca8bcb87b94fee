-- The value of keyUsage in its one spelling (RFC 5280, 4.2.1.3; X.690, 11.2.2).
use Rattle.std.specs.Prelude.{◌≡◌, ℕ, ◌+◌, ◌-◌, ◌*◌, ◌/◌, ◌%◌, ◌^◌, ◌≤◌, List, [], ◌∷◌, ◌++◌, length, slice_index}
use Rattle.cert_model.specs.Fields.{Bits}
use Rattle.cert_model.specs.Octets.{bit_field_octets}
use Rattle.cert_model.specs.Range.{AreBits}

-- bit k of a list of bits, from 0: the highest of the first octet is bit 0 (X.690, 8.6.2.2)
abbrev pub bit_at : Bits → ℕ → ℕ
bit_at b k = slice_index b.octets (k / 8) / 2 ^ (7 - k % 8) % 2

-- the last bit that isn't unused is 1: a named bit list has no trailing 0 bits, so there is a bit
abbrev pub EndsInOne : Bits → Type 0
EndsInOne b = (front : List ℕ) × (last : ℕ) × (b.octets ≡ front ++ last ∷ []) × (last / 2 ^ b.unused % 2 ≡ 1)

-- some of bits 0 to 8, without trailing 0 bits
pub record IsUsage (b : Bits) : Type 0 where
  pub in_range : AreBits b
  pub known : 8 * length b.octets ≤ 9 + b.unused
  pub trimmed : EndsInOne b

-- KeyUsage ::= BIT STRING { digitalSignature (0), .., keyCertSign (5), .., decipherOnly (8) }
pub record IsKeyUsage (value : List ℕ) (b : Bits) : Type 0 where
  pub usage : IsUsage b
  pub spelled : value ≡ bit_field_octets b

-- keyCertSign
abbrev pub MaySignCertificates : Bits → Type 0
MaySignCertificates b = bit_at b 5 ≡ 1

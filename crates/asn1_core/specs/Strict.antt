-- The strict header: the one shortest spelling of a class, a constructed bit, a tag number and a
-- definite length (X.690, 8.1.2, 8.1.3 and 10.1).
use Rattle.std.specs.Prelude.{ℕ, ◌+◌, ◌*◌, ◌^◌, ◌<◌, nat_lt, Bool, if◌then◌else◌, List, [], ◌∷◌, ◌++◌, length}
use Rattle.std.specs.Int.Digits.{digits_of}
use Rattle.asn1_core.specs.Digits.{continued}

-- what a header of definite length says; `size` counts the octets of the content
pub record Head : Type 0 where
  pub class : ℕ
  pub constructed : Bool
  pub tag : ℕ
  pub size : ℕ

-- the four classes, tag numbers of 32 bits, lengths that fit 64 bits
pub record IsHead (h : Head) : Type 0 where
  pub class : h.class < 4
  pub tag : h.tag < 2 ^ 32
  pub size : h.size < 2 ^ 64

-- the class in bits 8 and 7, the constructed bit 6, the low five bits (X.690, 8.1.2.2 to 8.1.2.5)
abbrev pub lead : ℕ → Bool → ℕ → ℕ
lead class constructed low = 64 * class + (if constructed then 32 else 0) + low

-- numbers to 30 in the first octet, others in the fewest after 31 there (X.690, 8.1.2.2, 8.1.2.4)
abbrev pub strict_identifier : ℕ → Bool → ℕ → List ℕ
strict_identifier class constructed tag =
    if nat_lt tag 31 then lead class constructed tag ∷ [] else lead class constructed 31 ∷ continued (digits_of 128 tag)

-- lengths to 127 in one octet, others in the fewest, counted in the first (X.690, 8.1.3 and 10.1)
abbrev pub strict_length : ℕ → List ℕ
strict_length n = if nat_lt n 128 then n ∷ [] else (128 + length (digits_of 256 n)) ∷ digits_of 256 n

abbrev pub strict_header : Head → List ℕ
strict_header h = strict_identifier h.class h.constructed h.tag ++ strict_length h.size

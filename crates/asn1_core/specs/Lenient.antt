-- The lenient spellings of a header: the high form of a tag number may be longer than need be and
-- be of a number below 31, a length may be longer than need be, and BER has the indefinite form
-- (X.690, 8.1.2 and 8.1.3).
use Rattle.std.specs.Prelude.{◌≡◌, ℕ, ◌+◌, ◌^◌, ◌<◌, ◌⊎◌, Bool, IsTrue, Option, Some, None, IfSome, List, [], ◌∷◌, ◌++◌, length}
use Rattle.asn1_core.specs.Digits.{AreDigits, continued}
use Rattle.asn1_core.specs.Strict.{Head, lead}

-- the low form for numbers to 30, or the high form with any digits of the number (X.690, 8.1.2.2 to
-- 8.1.2.4)
abbrev pub SpellsIdentifier : List ℕ → ℕ → Bool → ℕ → Type 0
SpellsIdentifier octets class constructed tag =
    ((tag < 31) × (octets ≡ lead class constructed tag ∷ []))
    ⊎ ((ds : List ℕ) × AreDigits 128 ds tag × (octets ≡ lead class constructed 31 ∷ continued ds))

-- the short form, or the long form with 1 to 126 octets: a first octet ff is never used
-- (X.690, 8.1.3.4 and 8.1.3.5)
abbrev pub SpellsLength : List ℕ → ℕ → Type 0
SpellsLength octets n =
    ((n < 128) × (octets ≡ n ∷ []))
    ⊎ ((ds : List ℕ) × AreDigits 256 ds n × (length ds < 127) × (octets ≡ (128 + length ds) ∷ ds))

-- a header of definite length, in any of its forms
pub record SpellsHeader (octets : List ℕ) (h : Head) : Type 0 where
  pub identifier : List ℕ
  pub size : List ℕ
  pub whole : octets ≡ identifier ++ size
  pub spells_identifier : SpellsIdentifier identifier h.class h.constructed h.tag
  pub spells_length : SpellsLength size h.size

-- what a BER header says; no size is the indefinite form
pub record BerHead : Type 0 where
  pub class : ℕ
  pub constructed : Bool
  pub tag : ℕ
  pub size : Option ℕ

pub record IsBerHead (h : BerHead) : Type 0 where
  pub class : h.class < 4
  pub tag : h.tag < 2 ^ 32
  pub size : IfSome h.size (λ n. n < 2 ^ 64)

-- what a header of definite length says, as a BER header
abbrev pub ber_head_of_head : Head → BerHead
ber_head_of_head h = record { class = h.class; constructed = h.constructed; tag = h.tag; size = Some h.size }

-- the definite forms, or 80 on a constructed element (X.690, 8.1.3.2 and 8.1.3.6)
abbrev pub SpellsBerLength : List ℕ → Bool → Option ℕ → Type 0
SpellsBerLength octets constructed (Some n) = SpellsLength octets n
SpellsBerLength octets constructed None = IsTrue constructed × (octets ≡ 128 ∷ [])

-- a BER header, in any of its forms
pub record SpellsBerHeader (octets : List ℕ) (h : BerHead) : Type 0 where
  pub identifier : List ℕ
  pub size : List ℕ
  pub whole : octets ≡ identifier ++ size
  pub spells_identifier : SpellsIdentifier identifier h.class h.constructed h.tag
  pub spells_length : SpellsBerLength size h.constructed h.size

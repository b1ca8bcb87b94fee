-- Strings whose characters take two or four octets each: the octets of characters, and what text
-- octets are.
use Rattle.std.specs.Prelude.{◌≡◌, ◌⊎◌, ◌++◌, List, ℕ, true, Result, Ok, Err}
use Rattle.std.specs.List.{flat_map}
use Rattle.std.specs.Int.{to_be_bytes, w16, w32}
use Rattle.std.specs.Char.{IsScalar}
use Rattle.std.specs.Char.Escape.{encode_utf16}
use Rattle.std.specs.Str.{all_scalars, chars}
use Rattle.asn1_strings.specs.declared.wide.CharOctets.{CharOctets}
use Rattle.asn1_strings.specs.declared.wide.CharOctets.TheVariants.{Two, Four}
use Rattle.asn1_core.specs.declared.error.Error.{Error}
use Rattle.asn1_core.specs.declared.error.Error.TheVariants as errors

-- a character of a BMPString: its units of UTF-16, of two octets each, the high one first
-- (X.690, 8.23; ISO/IEC 10646, UTF-16BE)
abbrev pub utf16_octets : ℕ → List ℕ
utf16_octets c = flat_map (to_be_bytes w16) (encode_utf16 c)

-- a character of a UniversalString: its number in four octets, the high one first (X.690, 8.23;
-- ISO/IEC 10646, UTF-32BE)
abbrev pub utf32_octets : ℕ → List ℕ
utf32_octets c = to_be_bytes w32 c

-- the octets of one character
abbrev pub octets_of : CharOctets → List ℕ
octets_of (Two octets) = octets
octets_of (Four octets) = octets

-- the octets of a text, which is given as UTF-8: those of its characters, one after the other
abbrev pub wide_octets : (ℕ → List ℕ) → List ℕ → List ℕ
wide_octets char_octets text = flat_map char_octets (chars text)

-- the content is the octets of the value's text
abbrev pub MeansWide : {V : Type 0} → (ℕ → List ℕ) → (V → List ℕ) → List ℕ → V → Type 0
MeansWide char_octets text_of content v = wide_octets char_octets (text_of v) ≡ content

-- the octets are those of some characters
abbrev pub IsWideText : (ℕ → List ℕ) → List ℕ → Type 0
IsWideText char_octets octets = (cs : List ℕ) × (all_scalars cs ≡ true) × (octets ≡ flat_map char_octets cs)

-- a character begins the octets, with the octets after it
abbrev pub BeginsWithChar : (ℕ → List ℕ) → List ℕ → ℕ → List ℕ → Type 0
BeginsWithChar char_octets octets c rest = IsScalar c × (octets ≡ char_octets c ++ rest)

-- no character begins the octets
abbrev pub BeginsWithNone : (ℕ → List ℕ) → List ℕ → Type 0
BeginsWithNone char_octets octets = (c : ℕ) (rest : List ℕ) → BeginsWithChar char_octets octets c rest → ⊥

-- the characters' text, or why there is none
abbrev pub ReadsWide : {V : Type 0} → (ℕ → List ℕ) → (V → List ℕ) → List ℕ → Result V Error → Type 0
ReadsWide char_octets text_of octets (Ok v) = wide_octets char_octets (text_of v) ≡ octets
ReadsWide char_octets text_of octets (Err e) = (e ≡ errors.OutOfMemory) ⊎ ((e ≡ errors.StringInvalidCharset) × (IsWideText char_octets octets → ⊥))

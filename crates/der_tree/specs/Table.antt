-- What may be in the content of a DER element, one line for each universal tag (X.690, 8, 10 and
-- 11).
use Rattle.std.specs.Prelude.{◌≡◌, ℕ, ◌^◌, ◌%◌, ◌<◌, ◌==◌, ◌&&◌, ◌||◌, not, nat_lt, nat_le, Bool, true, false, IsTrue, List, [], ◌∷◌, IsUtf8}
use Rattle.std.specs.Int.Digits.{number_from_digits, AllBelowBase}
use Rattle.std.specs.List.{list_all}
use Rattle.std.specs.Char.{is_ascii_digit, is_ascii_alphanumeric}
use Rattle.asn1_core.specs.Elements.{Element}
use Rattle.asn1_oid.specs.Identifier.{IsOidContent}
use Rattle.der_tree.specs.Time.{IsUtcTime, IsGeneralizedTime}

-- 00 is false, ff is true (X.690, 8.2 and 11.1)
abbrev pub is_boolean : List ℕ → Bool
is_boolean [] = false
is_boolean (a ∷ []) = a == 0 || a == 255
is_boolean (a ∷ b ∷ s) = false

-- at least one octet, the first nine bits neither all 0 nor all 1 (X.690, 8.3.1 and 8.3.2)
abbrev pub is_shortest : List ℕ → Bool
is_shortest [] = false
is_shortest (a ∷ []) = true
is_shortest (a ∷ b ∷ s) = not (a == 0 && nat_lt b 128) && not (a == 255 && nat_le 128 b)

-- the first bit of a two's complement number
abbrev pub is_negative : List ℕ → Bool
is_negative [] = false
is_negative (a ∷ s) = nat_le 128 a

-- octets of a number that is not negative and fits 64 bits
pub record IsEnumerated (s : List ℕ) : Type 0 where
  pub octets : AllBelowBase 256 s
  pub shortest : IsTrue (is_shortest s)
  pub sign : is_negative s ≡ false
  pub size : number_from_digits 256 s < 2 ^ 64

-- the last octet's so many lowest bits are 0, and there are none if there is no octet (X.690,
-- 8.6.2.3 and 11.2.1)
abbrev pub are_unused_zero : ℕ → List ℕ → Bool
are_unused_zero unused [] = unused == 0
are_unused_zero unused (a ∷ []) = a % 2 ^ unused == 0
are_unused_zero unused (a ∷ b ∷ s) = are_unused_zero unused (b ∷ s)

-- how many bits are unused, 0 to 7, then the bits (X.690, 8.6.2)
abbrev pub is_bit_string : List ℕ → Bool
is_bit_string [] = false
is_bit_string (unused ∷ s) = nat_lt unused 8 && are_unused_zero unused s

-- digits and space (X.680, table 9)
abbrev pub is_numeric : ℕ → Bool
is_numeric c = is_ascii_digit c || c == 32

-- letters, digits, space ' ( ) + , - . / : = ? (X.680, table 10)
abbrev pub is_printable : ℕ → Bool
is_printable c =
    is_ascii_alphanumeric c || c == 32 || (nat_le 39 c && nat_le c 41) || (nat_le 43 c && nat_le c 47) || c == 58 || c == 61 || c == 63

-- 20 to 7e (X.680, 41)
abbrev pub is_visible : ℕ → Bool
is_visible c = nat_le 32 c && nat_le c 126

-- the universal types that are read as the octets that are there
pub data Kind : Type 0 where
  integer : Kind
  octet_string : Kind
  object_descriptor : Kind
  utf8_string : Kind
  relative_oid : Kind
  numeric_string : Kind
  printable_string : Kind
  t61_string : Kind
  videotex_string : Kind
  ia5_string : Kind
  utc_time : Kind
  generalized_time : Kind
  graphic_string : Kind
  visible_string : Kind
  general_string : Kind
  universal_string : Kind
  bmp_string : Kind

-- their tag numbers (X.680, table 1)
abbrev pub tag_of : Kind → ℕ
tag_of integer = 2
tag_of octet_string = 4
tag_of object_descriptor = 7
tag_of utf8_string = 12
tag_of relative_oid = 13
tag_of numeric_string = 18
tag_of printable_string = 19
tag_of t61_string = 20
tag_of videotex_string = 21
tag_of ia5_string = 22
tag_of utc_time = 23
tag_of generalized_time = 24
tag_of graphic_string = 25
tag_of visible_string = 26
tag_of general_string = 27
tag_of universal_string = 28
tag_of bmp_string = 30

-- the octets that they allow
abbrev pub Allows : Kind → List ℕ → Type 0
Allows integer s = IsTrue (is_shortest s)
Allows octet_string s = Unit {0}
Allows object_descriptor s = Unit {0}
Allows utf8_string s = IsUtf8 s
Allows relative_oid s = IsOidContent s
Allows numeric_string s = IsTrue (list_all is_numeric s)
Allows printable_string s = IsTrue (list_all is_printable s)
Allows t61_string s = Unit {0}
Allows videotex_string s = Unit {0}
Allows ia5_string s = IsTrue (list_all (λ c. nat_lt c 128) s)
Allows utc_time s = IsUtcTime s
Allows generalized_time s = IsGeneralizedTime s
Allows graphic_string s = Unit {0}
Allows visible_string s = IsTrue (list_all is_visible s)
Allows general_string s = Unit {0}
Allows universal_string s = Unit {0}
Allows bmp_string s = Unit {0}

-- universal, primitive, of this tag number
pub record IsPrimitive (e : Element) (n : ℕ) : Type 0 where
  pub class : e.class ≡ 0
  pub constructed : e.constructed ≡ false
  pub tag : e.tag ≡ n

-- universal, constructed, of this tag number
pub record IsConstructed (e : Element) (n : ℕ) : Type 0 where
  pub class : e.class ≡ 0
  pub constructed : e.constructed ≡ true
  pub tag : e.tag ≡ n

-- the universal tag numbers that have a line; 0 marks the end of an indefinite form and is never an object
abbrev pub is_listed : ℕ → Bool
is_listed n = nat_le n 7 || n == 10 || n == 12 || n == 13 || (nat_le 16 n && nat_le n 28) || n == 30

-- what is left raw: other classes, and other universal tag numbers
abbrev pub IsRaw : Element → Type 0
IsRaw e = e.class ≡ 0 → is_listed e.tag ≡ false

-- The table: what may be under a header, the parts of a sequence or set being `Parts`.
pub data Stands (Parts : List ℕ → Type 0) (e : Element) : Type 0 where
  boolean : IsPrimitive e 1 → IsTrue (is_boolean e.content) → Stands Parts e
  bit_string : IsPrimitive e 3 → IsTrue (is_bit_string e.content) → Stands Parts e
  null : IsPrimitive e 5 → e.content ≡ [] → Stands Parts e
  oid : IsPrimitive e 6 → IsOidContent e.content → Stands Parts e
  enumerated : IsPrimitive e 10 → IsEnumerated e.content → Stands Parts e
  sequence : IsConstructed e 16 → Parts e.content → Stands Parts e
  set : IsConstructed e 17 → Parts e.content → Stands Parts e
  plain : (k : Kind) → IsPrimitive e (tag_of k) → Allows k e.content → Stands Parts e
  raw : IsRaw e → Stands Parts e

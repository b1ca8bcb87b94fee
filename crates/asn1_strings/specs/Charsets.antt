-- The character sets whose characters take one octet each.
use Rattle.std.specs.Prelude.{ℕ, Bool, List, IsTrue, nat_lt, nat_le, ◌==◌, ◌&&◌, ◌||◌}
use Rattle.std.specs.List.{list_all}
use Rattle.std.specs.Char.{is_ascii_digit, is_ascii_alphanumeric}

-- each octet is a character of the set
abbrev pub IsTextOf : (ℕ → Bool) → List ℕ → Type 0
IsTextOf has octets = IsTrue (list_all has octets)

-- NumericString: digits and space (X.680, table 9)
abbrev pub is_numeric : ℕ → Bool
is_numeric c = is_ascii_digit c || c == 32

-- PrintableString: letters, digits, space ' ( ) + , - . / : = ? (X.680, table 10)
abbrev pub is_printable : ℕ → Bool
is_printable c =
    is_ascii_alphanumeric c || c == 32 || (nat_le 39 c && nat_le c 41) || (nat_le 43 c && nat_le c 47) || c == 58 || c == 61 || c == 63

-- IA5String: octets below 80 hex (X.680, 41)
abbrev pub is_below_80 : ℕ → Bool
is_below_80 c = nat_lt c 0x80

-- VisibleString: 20 to 7e hex (X.680, 41)
abbrev pub is_visible : ℕ → Bool
is_visible c = nat_le 0x20 c && nat_le c 0x7e

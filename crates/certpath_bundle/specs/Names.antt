-- How names of files and labels of blocks are shown. This page is to be believed.
use Rattle.std.specs.Prelude.{ℕ, nat_le, nat_lt, Bool, false, ◌&&◌, ◌||◌, if◌then◌else◌, List, [], ◌∷◌, ◌++◌, codes}
use Rattle.std.specs.List.{flat_map}
use Rattle.std.specs.Char.{encode_utf8}
use Rattle.std.specs.Fmt.{digits}
use Rattle.std.specs.Str.{chars}

-- the controls of ASCII and of ISO 8859-1, and what separates lines or turns the direction of
-- writing
abbrev pub is_hidden : ℕ → Bool
is_hidden code =
    nat_lt code 32 || ((nat_le 127 code && nat_le code 159) || ((nat_le 0x2028 code && nat_le code 0x202e) || (nat_le 0x2066 code && nat_le code 0x2069)))

-- such a character is shown by its number, `\u{1b}`
abbrev pub shown_char : ℕ → List ℕ
shown_char code = if is_hidden code then codes "\\u{" ++ (digits 16 false code ++ codes "}") else encode_utf8 code

abbrev pub shown_name : List ℕ → List ℕ
shown_name name = flat_map shown_char (chars name)

-- printable ASCII
abbrev pub is_plain : ℕ → Bool
is_plain octet = nat_le 32 octet && nat_le octet 126

abbrev pub shown_octet : ℕ → List ℕ
shown_octet octet = if is_plain octet then octet ∷ [] else 63 ∷ []

-- labels that are known are printable ASCII, so they are shown as they are
abbrev pub shown_label : List ℕ → List ℕ
shown_label label = flat_map shown_octet label

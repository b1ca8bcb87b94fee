-- The text of an object identifier.
use Rattle.std.specs.Prelude.{ℕ, ◌/◌, ◌%◌, false, map, List, [], ◌∷◌, decimal, if◌then◌else◌}
use Rattle.std.specs.List.{join_with_byte}
use Rattle.std.specs.Fmt.{digit_glyph}
use Rattle.asn1_oid.specs.Reading.{is_readable, components_in}

-- numbers in decimal, joined by `.`, as `1.2.3`
abbrev pub dotted : List ℕ → List ℕ
dotted components = join_with_byte 0x2E (map decimal components)

-- two lower-case hexadecimal digits
abbrev pub hex_pair : ℕ → List ℕ
hex_pair octet = digit_glyph false (octet / 16) ∷ digit_glyph false (octet % 16) ∷ []

-- octets in hexadecimal, joined by spaces, as `2a 80 01`
abbrev pub spaced_hex : List ℕ → List ℕ
spaced_hex octets = join_with_byte 0x20 (map hex_pair octets)

-- the components that the octets spell, or else the octets themselves
unfoldable pub oid_text : List ℕ → List ℕ
oid_text octets = if is_readable octets then dotted (components_in octets) else spaced_hex octets

-- The texts of octets.
use Rattle.std.specs.Prelude.{ℕ, map, List}
use Rattle.std.specs.List.{join_with_byte}
use Rattle.x509_core.specs.asn1_oid.specs.Text.{hex_pair}

-- two lower-case hexadecimal digits an octet, joined by `:`, as `01:02:ff`
abbrev pub serial_text : List ℕ → List ℕ
serial_text octets = join_with_byte 0x3A (map hex_pair octets)

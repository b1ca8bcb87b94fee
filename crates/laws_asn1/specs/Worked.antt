-- Values with their octets, written out by hand: they try the laws' definitions, not the code.
use Rattle.std.specs.Prelude.{ℕ, true, false, None, List, [], ◌∷◌}
use Rattle.asn1_any.specs.BerElements.{BerElement}
use Rattle.asn1_any.specs.Cutting.{Piece}
use Rattle.asn1_core.specs.Elements.{Element}
use Rattle.asn1_core.specs.Lenient.{BerHead}
use Rattle.asn1_core.specs.Strict.{Head}

-- what comes after a value
abbrev pub after : List ℕ
after = 0xff ∷ []

-- the header of a SEQUENCE of three octets: strictly 30 03
abbrev pub sequence_head : Head
sequence_head = record { class = 0; constructed = true; tag = 16; size = 3 }

-- the same header with its length in the long form (X.690, 8.1.3.5)
abbrev pub long_octets : List ℕ
long_octets = 0x30 ∷ 0x81 ∷ 0x03 ∷ []

-- the header of a SEQUENCE of indefinite length (X.690, 8.1.3.6)
abbrev pub indefinite_head : BerHead
indefinite_head = record { class = 0; constructed = true; tag = 16; size = None }

abbrev pub indefinite_octets : List ℕ
indefinite_octets = 0x30 ∷ 0x80 ∷ []

-- a NULL: 05 00
abbrev pub null_element : Element
null_element = record { class = 0; constructed = false; tag = 5; content = [] }

-- 1.2.840 and its content octets (X.690, 8.19)
abbrev pub components : List ℕ
components = 1 ∷ 2 ∷ 840 ∷ []

abbrev pub identifier_octets : List ℕ
identifier_octets = 0x2a ∷ 0x86 ∷ 0x48 ∷ []

-- a subidentifier that begins with 80 (X.690, 8.19.2)
abbrev pub padded_octets : List ℕ
padded_octets = 0x2a ∷ 0x80 ∷ 0x01 ∷ []

-- the NULL with its length in the long form
abbrev pub long_null : List ℕ
long_null = 0x05 ∷ 0x81 ∷ 0x00 ∷ []

abbrev pub long_piece : Piece
long_piece = record { octets = long_null; element = null_element }

-- a SEQUENCE of indefinite length that holds a NULL, and its octets to the end of its contents
abbrev pub indefinite_element : BerElement
indefinite_element = record { head = indefinite_head; content = 0x05 ∷ 0x00 ∷ [] }

abbrev pub indefinite_whole : List ℕ
indefinite_whole = 0x30 ∷ 0x80 ∷ 0x05 ∷ 0x00 ∷ 0x00 ∷ 0x00 ∷ []

-- the first octet of a header, which lacks its length
abbrev pub cut_header : List ℕ
cut_header = 0xa1 ∷ []

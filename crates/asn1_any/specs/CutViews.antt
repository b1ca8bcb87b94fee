-- What the elements of a cut content say, for clauses of this crate and of those above it.
use Rattle.std.specs.Prelude.{◌≡◌, ◌+◌, ◌≤◌, List, map, length}
use Rattle.asn1_core.specs.declared.length.Length.TheVariants.{Definite}
use Rattle.asn1_core.specs.Views.{length_of}
use Rattle.asn1_any.specs.declared.any.Any.{Any}
use Rattle.asn1_any.specs.declared.cut.Element.{Element}
use Rattle.asn1_any.specs.Cutting.{Piece}
use Rattle.asn1_any.specs.Views.{any_of}

abbrev pub piece_of : Element → Piece
piece_of element = record { octets = element.octets.now; element = any_of element.any }

abbrev pub pieces_of : List Element → List Piece
pieces_of elements = map piece_of elements

-- the length in the header is the number of the content octets
abbrev pub HasOwnLength : Any → Type 0
HasOwnLength any = length_of any.header ≡ Definite (length any.content.now)

abbrev pub HasCountedContent : Element → Type 0
HasCountedContent element = HasOwnLength element.any

-- its header takes two octets at least
abbrev pub IsLongerThanContent : Element → Type 0
IsLongerThanContent element = length element.any.content.now + 2 ≤ length element.octets.now

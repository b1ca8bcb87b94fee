-- What is left of a content that was cut into its elements.
use Rattle.std.specs.Prelude.{ℕ, List, [], ◌∷◌, Option, Some, None, All, drop}
use Rattle.std.specs.Int.Digits.{AllBelowBase}
use Rattle.asn1_any.specs.declared.cut.Element.{Element}
use Rattle.asn1_any.specs.Cutting.{IsCutting}
use Rattle.asn1_any.specs.CutViews.{HasCountedContent, pieces_of}
use Rattle.x509_core.specs.declared.ahead.Ahead.{Ahead}

-- the octets that are left, and how many elements are in them
pub record Left : Type 0 where
  pub octets : List ℕ
  pub elements : ℕ

-- up to three elements by themselves, then others
abbrev pub in_order : Option Element → Option Element → Option Element → List Element → List Element
in_order None second third others = others
in_order (Some front) None third others = front ∷ others
in_order (Some front) (Some second) None others = front ∷ second ∷ others
in_order (Some front) (Some second) (Some third) others = front ∷ second ∷ third ∷ others

unfoldable pub ahead_of : Ahead → List Element
ahead_of ahead = in_order ahead.front ahead.second ahead.third (drop ahead.at ahead.others.items)

-- the elements are those of the octets, and each header has the length of its content
pub record IsCut (octets : List ℕ) (elements : List Element) : Type 0 where
  pub below : AllBelowBase 256 octets
  pub tail : List ℕ
  pub cutting : IsCutting octets (pieces_of elements) tail
  pub counted : All HasCountedContent elements

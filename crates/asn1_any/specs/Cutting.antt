-- A content cut into its elements, one after another (X.690, 8.1.1): as many as there are from its
-- front on, and the octets after them, which no element begins.
use Rattle.std.specs.Prelude.{◌≡◌, ℕ, ◌+◌, List, [], ◌∷◌, ◌++◌, length}
use Rattle.std.specs.List.{AllByRecursion, flat_map}
use Rattle.asn1_core.specs.Elements.{Element}
use Rattle.asn1_any.specs.DerElements.{SpellsElement, HasElement}

-- an element with all its octets, those of its header too
pub record Piece : Type 0 where
  pub octets : List ℕ
  pub element : Element

-- the octets are the element's
abbrev pub IsPiece : Piece → Type 0
IsPiece piece = SpellsElement piece.octets piece.element

-- the pieces' octets and the tail are the content, each piece is an element, and no element begins
-- the tail
pub record IsCutting (content : List ℕ) (pieces : List Piece) (tail : List ℕ) : Type 0 where
  pub whole : content ≡ flat_map (λ piece. piece.octets) pieces ++ tail
  pub each : AllByRecursion IsPiece pieces
  pub last : ¬ HasElement tail

-- a header attempt for each element, and one for a tail that isn't empty
abbrev pub attempts_at : List Piece → List ℕ → ℕ
attempts_at pieces [] = length pieces
attempts_at pieces (octet ∷ tail) = length pieces + 1

-- Octets whose first parts are there, and what comes after them is so; and an element whose content is so.
use Rattle.std.specs.Prelude.{◌≡◌, ◌≢◌, ℕ, List, [], ◌++◌}
use Rattle.asn1_core.specs.Strict.{Head}
use Rattle.asn1_any.specs.Cutting.{Piece, IsPiece}
use Rattle.x509_core.specs.Grammar.{Grammar, Header}

-- P begins the octets, and what comes after it is so
pub record Then {A : Type 0} (P : Grammar A) (Q : List ℕ → Type 0) (octets : List ℕ) : Type 0 where
  pub value : A
  pub after : List ℕ
  pub begins : P octets value after
  pub next : Q after

-- an element of this tag number, whatever its class and constructed bit (X.690, 8.1), begins the octets; its content is so
pub record Inside (n : ℕ) (Q : List ℕ → Type 0) (octets : List ℕ) : Type 0 where
  pub piece : Piece
  pub after : List ℕ
  pub spells : IsPiece piece
  pub whole : octets ≡ piece.octets ++ after
  pub tag : piece.element.tag ≡ n
  pub inner : Q piece.element.content

-- octets are left, and no header of this tag number begins them
pub record NoWrapper (n : ℕ) (octets : List ℕ) : Type 0 where
  pub some : octets ≢ []
  pub none : (head : Head) (after : List ℕ) → Header octets head after → head.tag ≢ n

-- it is never so
abbrev pub Never : List ℕ → Type 0
Never octets = ⊥

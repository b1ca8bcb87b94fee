-- Lenient grammars, as relations between a front of octets, a value and the octets after it. What ASN.1 type a grammar reads
-- is said beside it at its use; how content is cut plays no part.
use Rattle.std.specs.Prelude.{◌≡◌, ℕ, List, [], ◌∷◌, ◌++◌, Option, Some, None}
use Rattle.asn1_core.specs.Strict.{Head, IsHead}
use Rattle.asn1_core.specs.Lenient.{SpellsHeader}
use Rattle.asn1_any.specs.Cutting.{Piece, IsPiece}

-- octets, a value, and the octets after it
abbrev pub Grammar : Type 0 → Type 1
Grammar A = List ℕ → A → List ℕ → Type 0

-- no value begins the octets
abbrev pub NoneBegins : {A : Type 0} → Grammar A → List ℕ → Type 0
NoneBegins {A} P octets = (v : A) (rest : List ℕ) → P octets v rest → ⊥

-- a header of definite length, in any spelling (X.690, 8.1.2 and 8.1.3); the octets that it counts are part of the rest, and
-- needn't be there
pub record Header (octets : List ℕ) (head : Head) (rest : List ℕ) : Type 0 where
  pub front : List ℕ
  pub in_range : IsHead head
  pub spells : SpellsHeader front head
  pub whole : octets ≡ front ++ rest

-- one element of definite length, its header in any spelling (X.690, 8.1), that means the value
pub record One {A : Type 0} (Means : Piece → A → Type 0) (octets : List ℕ) (v : A) (rest : List ℕ) : Type 0 where
  pub piece : Piece
  pub spells : IsPiece piece
  pub whole : octets ≡ piece.octets ++ rest
  pub means : Means piece v

-- the element has this tag number, whatever its class and constructed bit, and its content begins so; `left` is what is left of it
pub record Within {A : Type 0} (n : ℕ) (P : Grammar A) (piece : Piece) (v : A) (left : List ℕ) : Type 0 where
  pub tag : piece.element.tag ≡ n
  pub inner : P piece.element.content v left

-- what is left of the content is ignored
abbrev pub Holds : {A : Type 0} → ℕ → Grammar A → Piece → A → Type 0
Holds n P piece v = (left : List ℕ) × Within n P piece v left

-- an element of this tag number whose content begins so
abbrev pub Box : {A : Type 0} → ℕ → Grammar A → Grammar A
Box n P = One (Holds n P)

-- such an element with a window, which ends where P stopped: what is left of the content is no part of it
pub record HoldsWindow {A : Type 0} (n : ℕ) (P : Grammar A) (raw : A → List ℕ) (piece : Piece) (v : A) : Type 0 where
  pub left : List ℕ
  pub inside : Within n P piece v left
  pub window : piece.octets ≡ raw v ++ left

abbrev pub WindowBox : {A : Type 0} → ℕ → Grammar A → (A → List ℕ) → Grammar A
WindowBox n P raw = One (HoldsWindow n P raw)

-- such an element with a window that is the whole element, what is left of its content too
pub record HoldsWhole {A : Type 0} (n : ℕ) (P : Grammar A) (raw : A → List ℕ) (piece : Piece) (v : A) : Type 0 where
  pub inside : Holds n P piece v
  pub window : raw v ≡ piece.octets

abbrev pub WholeBox : {A : Type 0} → ℕ → Grammar A → (A → List ℕ) → Grammar A
WholeBox n P raw = One (HoldsWhole n P raw)

-- as many as begin there
unfoldable pub AsMany : {A : Type 0} → Grammar A → List ℕ → List A → List ℕ → Type 0
AsMany P octets [] rest = (octets ≡ rest) × NoneBegins P octets
AsMany P octets (v ∷ vs) rest = (after : List ℕ) × P octets v after × AsMany P after vs rest

-- P repeated to the end
abbrev pub All : {A : Type 0} → Grammar A → List ℕ → List A → Type 0
All P octets vs = AsMany P octets vs []

-- P repeated to the end, as a grammar: nothing comes after it
abbrev pub ToEnd : {A : Type 0} → Grammar A → Grammar (List A)
ToEnd P octets vs rest = All P octets vs × (rest ≡ [])

-- P, or nothing if P doesn't begin there
abbrev pub Maybe : {A : Type 0} → Grammar A → Grammar (Option A)
Maybe P octets (Some v) rest = P octets v rest
Maybe P octets None rest = (octets ≡ rest) × NoneBegins P octets

-- P, or nothing if no octet is left
abbrev pub UnlessAtEnd : {A : Type 0} → Grammar A → Grammar (Option A)
UnlessAtEnd P octets (Some v) rest = P octets v rest
UnlessAtEnd P octets None rest = (octets ≡ []) × (rest ≡ [])

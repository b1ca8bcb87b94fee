-- Single elements, and what they mean. A leaf is primitive; its tag number is compared, its class isn't.
use Rattle.std.specs.Prelude.{◌≡◌, ℕ, List}
use Rattle.asn1_core.specs.Elements.{Element}
use Rattle.asn1_any.specs.BerElements.{definite_element}
use Rattle.asn1_any.specs.Cutting.{Piece}
use Rattle.asn1_traits.specs.Leaves.{LeafMeans, MeansOctets}

-- a leaf of the tag number, whose content means the value
abbrev pub Leaf : {A : Type 0} → ℕ → (List ℕ → A → Type 0) → Piece → A → Type 0
Leaf n means piece v = LeafMeans n means (definite_element piece.element) v

-- OBJECT IDENTIFIER, of any content
abbrev pub IsOid : Piece → List ℕ → Type 0
IsOid = Leaf 6 (MeansOctets (λ v. v))

-- OCTET STRING
abbrev pub IsOctets : Piece → List ℕ → Type 0
IsOctets = Leaf 4 (MeansOctets (λ v. v))

-- ANY: the element as it is
abbrev pub IsAny : Piece → Element → Type 0
IsAny piece e = e ≡ piece.element

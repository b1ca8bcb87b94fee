-- DER objects of at most k levels, by cases on their octets alone (X.690, 8.1 and 10).
use Rattle.std.specs.Prelude.{◌≡◌, ℕ, ◌≤◌, zero, suc, List, ◌++◌, length}
use Rattle.std.specs.List.{flat_map, AllByRecursion}
use Rattle.asn1_core.specs.Elements.{Element, IsElement, element_octets}
use Rattle.der_tree.specs.Table.{Stands}

-- the octets are one strictly written element, of at most 4,294,967,295 content octets
pub record IsCut (s : List ℕ) (e : Element) : Type 0 where
  pub in_range : IsElement e
  pub size : length e.content ≤ 4_294_967_295
  pub octets : s ≡ element_octets e

-- the octets are such pieces, one after the other
abbrev pub AreAll : (List ℕ → Type 0) → List ℕ → Type 0
AreAll P s = (pieces : List (List ℕ)) × AllByRecursion P pieces × (s ≡ flat_map (λ piece. piece) pieces)

-- An element takes one level; the parts of a sequence or set have one level less.
unfoldable pub IsDerObject : ℕ → List ℕ → Type 0
IsDerObject zero s = ⊥
IsDerObject (suc k) s = (e : Element) × IsCut s e × Stands (AreAll (IsDerObject k)) e

-- such an element begins the octets
abbrev pub HasCut : List ℕ → Type 0
HasCut s = (front : List ℕ) × (rest : List ℕ) × (e : Element) × IsCut front e × (s ≡ front ++ rest)

-- An element by the rules of BER: of definite length, or of the indefinite form, whose content is
-- BER elements one after the other, up to end-of-contents octets (X.690, 8.1.1, 8.1.3.6 and 8.1.5).
-- The content of a definite element is any octets.
use Rattle.std.specs.Prelude.{◌≡◌, ◌≢◌, ℕ, zero, suc, Option, Some, None, List, [], ◌∷◌, ◌++◌, length}
use Rattle.std.specs.List.{AllByRecursion, concat}
use Rattle.asn1_core.specs.Elements.{Element}
use Rattle.asn1_core.specs.Lenient.{BerHead, IsBerHead, SpellsBerHeader}

-- what a header says, and the content; end-of-contents octets are no part of it
pub record BerElement : Type 0 where
  pub head : BerHead
  pub content : List ℕ

-- its class, constructed bit, tag number and content
abbrev pub element_of_ber : BerElement → Element
element_of_ber e = record { class = e.head.class; constructed = e.head.constructed; tag = e.head.tag; content = e.content }

-- what ends an indefinite content (X.690, 8.1.5)
abbrev pub end_of_contents : List ℕ
end_of_contents = 0 ∷ 0 ∷ []

-- pieces one after the other, each of this kind
pub record AreAll (Kind : List ℕ → Type 0) (octets : List ℕ) : Type 0 where
  pub pieces : List (List ℕ)
  pub each : AllByRecursion Kind pieces
  pub whole : octets ≡ concat pieces

-- the octets after a header: as many as a length says, or elements of this kind and end-of-contents
-- octets
abbrev pub Closes : (List ℕ → Type 0) → Option ℕ → List ℕ → List ℕ → Type 0
Closes Kind (Some n) content body = (n ≡ length content) × (body ≡ content)
Closes Kind None content body = AreAll Kind content × (body ≡ content ++ end_of_contents)

-- one element; `Kind` says what may be in an indefinite one
pub record SpellsBer (Kind : List ℕ → Type 0) (octets : List ℕ) (e : BerElement) : Type 0 where
  pub header : List ℕ
  pub body : List ℕ
  pub in_range : IsBerHead e.head
  pub spells : SpellsBerHeader header e.head
  pub closes : Closes Kind e.head.size e.content body
  pub whole : octets ≡ header ++ body

-- an element of at most so many levels that may be in an indefinite one. Each element takes a
-- level; in a definite one nothing is looked at. Octets 00 00 are no element there, but the end.
unfoldable pub IsWithin : ℕ → List ℕ → Type 0
IsWithin zero octets = ⊥
IsWithin (suc levels) octets = (octets ≢ end_of_contents) × ((e : BerElement) × SpellsBer (IsWithin levels) octets e)

-- an element of definite length, as BER sees it
abbrev pub definite_element : Element → BerElement
definite_element e = record { head = record { class = e.class; constructed = e.constructed; tag = e.tag; size = Some (length e.content) }; content = e.content }

-- the octets begin with an element of at most so many levels beside its own, and the rest comes
-- after it
pub record BeginsWithBerElement (levels : ℕ) (octets : List ℕ) (e : BerElement) (rest : List ℕ) : Type 0 where
  pub front : List ℕ
  pub spells : SpellsBer (IsWithin levels) front e
  pub whole : octets ≡ front ++ rest

-- a BER element of at most so many levels beside its own begins the octets
abbrev pub HasBerElement : ℕ → List ℕ → Type 0
HasBerElement levels octets = (e : BerElement) × (rest : List ℕ) × BeginsWithBerElement levels octets e rest

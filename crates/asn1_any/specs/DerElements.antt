-- An element of definite length as octets: identifier, length and content octets, one after the
-- other (X.690, 8.1.1). The header may be spelled in any of its definite forms (X.690, 8.1.2, and
-- 8.1.3.3 to 8.1.3.5).
use Rattle.std.specs.Prelude.{◌≡◌, ℕ, List, ◌++◌}
use Rattle.asn1_core.specs.Strict.{Head}
use Rattle.asn1_core.specs.Elements.{Element, head_of_element, IsElement}
use Rattle.asn1_core.specs.Lenient.{SpellsHeader}

-- an element of what its header says and its content
abbrev pub element_of : Head → List ℕ → Element
element_of h content = record { class = h.class; constructed = h.constructed; tag = h.tag; content = content }

-- a header for this class, constructed bit, tag number and number of octets, then the content
pub record SpellsElement (octets : List ℕ) (e : Element) : Type 0 where
  pub header : List ℕ
  pub in_range : IsElement e
  pub spells : SpellsHeader header (head_of_element e)
  pub whole : octets ≡ header ++ e.content

-- the octets begin with the element, and the rest comes after it
pub record BeginsWithElement (octets : List ℕ) (e : Element) (rest : List ℕ) : Type 0 where
  pub front : List ℕ
  pub spells : SpellsElement front e
  pub whole : octets ≡ front ++ rest

-- an element begins the octets
abbrev pub HasElement : List ℕ → Type 0
HasElement octets = (e : Element) × (rest : List ℕ) × BeginsWithElement octets e rest

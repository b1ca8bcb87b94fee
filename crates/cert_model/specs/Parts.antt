-- Single elements.
use Rattle.std.specs.Prelude.{◌≡◌, ◌<◌, ◌^◌, ℕ, Bool, List}
use Rattle.asn1_core.specs.Elements.{Element, element_octets}
use Rattle.asn1_core.specs.Views.{class_number}
use Rattle.asn1_core.specs.declared.class.Class.{Class}

-- an element of a known identifier (X.690, 8.1.2)
abbrev pub element_of : Class → Bool → ℕ → List ℕ → Element
element_of class constructed tag content = record { class = class_number class; constructed = constructed; tag = tag; content = content }

-- the octets of one element, whatever it is
abbrev pub IsPart : List ℕ → Type 0
IsPart s = (e : Element) × (e.class < 4) × (e.tag < 2 ^ 32) × (s ≡ element_octets e)

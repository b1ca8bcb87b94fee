-- Sequences and sets that keep their content octets (X.690, 8.9 and 8.11).
use Rattle.std.specs.Prelude.{◌≡◌, ℕ, true, List}
use Rattle.asn1_core.specs.Elements.{Element}
use Rattle.asn1_any.specs.BerElements.{BerElement, element_of_ber}
use Rattle.asn1_traits.specs.Lists.{IsContainer}

-- a constructed universal element of this tag number and this content
abbrev pub container : ℕ → List ℕ → Element
container tag content = record { class = 0; constructed = true; tag = tag; content = content }

-- such an element, whose content octets the value holds as they are
pub record HoldsContent {V : Type 0} (tag : ℕ) (octets_of : V → List ℕ) (e : BerElement) (v : V) : Type 0 where
  pub is_container : IsContainer tag (element_of_ber e)
  pub held : octets_of v ≡ e.content

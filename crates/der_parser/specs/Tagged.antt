-- An element found by its tag number, whatever its class. Its header may be spelled in any of its
-- definite forms.
use Rattle.std.specs.Prelude.{◌≡◌, ℕ, List, ◌++◌}
use Rattle.asn1_core.specs.Elements.{Element}
use Rattle.asn1_any.specs.DerElements.{SpellsElement}

-- the octets are an element of this tag number
pub record IsTagged (n : ℕ) (octets : List ℕ) (e : Element) : Type 0 where
  pub spells : SpellsElement octets e
  pub tag_is : e.tag ≡ n

-- such an element begins the octets
abbrev pub HasTagged : ℕ → List ℕ → Type 0
HasTagged n octets = (front : List ℕ) × (rest : List ℕ) × (e : Element) × IsTagged n front e × (octets ≡ front ++ rest)

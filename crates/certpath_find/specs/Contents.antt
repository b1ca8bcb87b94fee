-- Contents of elements, recognized by the first octet (X.690, 8.1).
use Rattle.std.specs.Prelude.{◌≡◌, ℕ, List, ◌∷◌}
use Rattle.asn1_core.specs.Elements.{Element}
use Rattle.asn1_any.specs.DerElements.{BeginsWithElement}

-- an element begins the octets, its first octet is this, and it has this content
pub record HasContent (first : ℕ) (octets content : List ℕ) : Type 0 where
  pub element : Element
  pub rest : List ℕ
  pub begins : BeginsWithElement octets element rest
  pub holds : element.content ≡ content
  pub after : List ℕ
  pub under : octets ≡ first ∷ after

-- A value read from the element that begins the octets.
use Rattle.std.specs.Prelude.{◌≡◌, ◌-◌, ℕ, List, Err}
use Rattle.asn1_core.specs.Elements.{Element}
use Rattle.asn1_core.specs.declared.error.Needed.{Needed}
use Rattle.asn1_core.specs.declared.outcome.Err.TheVariants as refusals
use Rattle.asn1_any.specs.DerElements.{BeginsWithElement}
use Rattle.asn1_any.specs.BerElements.{BerElement, definite_element, BeginsWithBerElement}
use Rattle.asn1_any.specs.Reading.{der_element_at, ber_element_at}
use Rattle.asn1_any.specs.declared.read.TheConstants.{MAX_RECURSION}
use Rattle.asn1_any.proofs.DerLaws.{der_once}
use Rattle.asn1_any.proofs.BerReading.{ber_once}

-- an element of definite length begins the octets, and means the value
pub record ReadsElement {V : Type 0} (means : BerElement → V → Type 0) (octets : List ℕ) (v : V) (rest : List ℕ) : Type 0 where
  pub element : Element
  pub begins : BeginsWithElement octets element rest
  pub meant : means (definite_element element) v

-- an element begins the octets by BER's rules, and means the value
pub record ReadsBerElement {V : Type 0} (means : BerElement → V → Type 0) (octets : List ℕ) (v : V) (rest : List ℕ) : Type 0 where
  pub element : BerElement
  pub begins : BeginsWithBerElement (MAX_RECURSION - 1) octets element rest
  pub meant : means element v

-- the octets end within an element: the reader of elements says that so many are missing
abbrev pub EndsWithinElement : List ℕ → Needed → Type 0
EndsWithinElement octets n = der_element_at octets ≡ Err (refusals.Incomplete n)

abbrev pub EndsWithinBerElement : List ℕ → Needed → Type 0
EndsWithinBerElement octets n = ber_element_at (MAX_RECURSION - 1) octets ≡ Err (refusals.Incomplete n)

-- the octets after a value are those after its element
pub one_element_rest : {V : Type 0} (means : BerElement → V → Type 0) (octets : List ℕ) (v w : V) (r s : List ℕ) → ReadsElement means octets v r → ReadsElement means octets w s → r ≡ s
one_element_rest means octets v w r s left right = (der_once octets r s left.element right.element left.begins right.begins).1

pub one_ber_element_rest : {V : Type 0} (means : BerElement → V → Type 0) (octets : List ℕ) (v w : V) (r s : List ℕ) → ReadsBerElement means octets v r → ReadsBerElement means octets w s → r ≡ s
one_ber_element_rest means octets v w r s left right = (ber_once (MAX_RECURSION - 1) octets r s left.element right.element left.begins right.begins).1

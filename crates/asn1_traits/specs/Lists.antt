-- Values one after the other, as the content of a sequence or a set (X.690, 8.10 and 8.12).
use Rattle.std.specs.Prelude.{◌≡◌, ◌<◌, ◌⊎◌, ℕ, Bool, true, Option, Some, List, [], ◌∷◌, ◌++◌, length, Result, Ok, Err}
use Rattle.asn1_core.specs.Elements.{Element}
use Rattle.asn1_any.specs.BerElements.{BerElement, element_of_ber}
use Rattle.asn1_core.specs.declared.error.Error.{Error}
use Rattle.asn1_core.specs.declared.outcome.Err.{Err as Refusal}
use Rattle.asn1_traits.specs.Reads.{Refuses}
use Rattle.asn1_traits.specs.Writes.{written}

-- the octets are these values and nothing else; each takes an octet at least
abbrev pub AllRead : {V : Type 0} → (List ℕ → V → List ℕ → Type 0) → List ℕ → List V → Type 0
AllRead reads octets [] = octets ≡ []
AllRead reads octets (v ∷ vs) = (rest : List ℕ) × reads octets v rest × (length rest < length octets) × AllRead reads rest vs

-- a constructed element of this universal tag number
pub record IsContainer (tag : ℕ) (e : Element) : Type 0 where
  pub class_is : e.class ≡ 0
  pub constructed : e.constructed ≡ true
  pub tag_is : e.tag ≡ tag

-- such an element, whose content is these values
pub record ContainerMeans {V : Type 0} (tag : ℕ) (reads : List ℕ → V → List ℕ → Type 0) (e : BerElement) (vs : List V) : Type 0 where
  pub container : IsContainer tag (element_of_ber e)
  pub items : AllRead reads e.content vs

-- the values of the octets, or an error if they aren't such values and nothing else; `items` are
-- those of a collection
abbrev pub ReadsAll : {V W E : Type 0} → (Error → E → Type 0) → (W → List V) → (List ℕ → V → List ℕ → Type 0) → List ℕ → Result W (Refusal E) → Type 0
ReadsAll gives items reads octets (Ok w) = AllRead reads octets (items w)
ReadsAll {V} gives items reads octets (Err r) = Refuses gives (Unit {0}) r ((vs : List V) → AllRead reads octets vs → ⊥)

-- what is written of each, one after the other
abbrev pub all_written : {V : Type 0} → (V → Option Element) → List V → List ℕ
all_written element [] = []
all_written element (v ∷ vs) = written (element v) ++ all_written element vs

-- the container of these values
abbrev pub container_of : {V : Type 0} → ℕ → (V → Option Element) → List V → Element
container_of tag element vs = record { class = 0; constructed = true; tag = tag; content = all_written element vs }

-- each is so
abbrev pub EachIs : {V : Type 0} → (V → Type 0) → List V → Type 0
EachIs P [] = Unit {0}
EachIs P (v ∷ vs) = P v × EachIs P vs

-- one is so
abbrev pub OneIs : {V : Type 0} → (V → Type 0) → List V → Type 0
OneIs P [] = ⊥
OneIs P (v ∷ vs) = P v ⊎ OneIs P vs

-- What a parser of an optional element returns: it passes header and content to a closure.
use Rattle.std.specs.Prelude.{◌≡◌, ◌≢◌, ◌⊎◌, ◌-◌, ℕ, Option, Some, None, List, [], length, Result, Ok, Err, IsOkAnd}
use Rattle.asn1_core.specs.Elements.{Element}
use Rattle.asn1_core.specs.Views.{class_number, class_of, tag_of, length_of, head_of, ber_head_of}
use Rattle.asn1_core.specs.declared.class.Class.{Class}
use Rattle.asn1_core.specs.declared.tag.Tag.{Tag}
use Rattle.asn1_core.specs.declared.length.Length.TheVariants.{Definite}
use Rattle.asn1_core.specs.declared.header.Header.{Header}
use Rattle.asn1_core.specs.declared.error.Error.{Error}
use Rattle.asn1_core.specs.declared.error.Needed.{Needed}
use Rattle.asn1_core.specs.Missing.{IsMissing}
use Rattle.asn1_core.specs.declared.outcome.Err.{Err as Refusal}
use Rattle.asn1_core.specs.declared.outcome.Err.TheVariants as refusals
use Rattle.asn1_any.specs.DerElements.{BeginsWithElement, HasElement, element_of}
use Rattle.asn1_any.specs.BerElements.{BerElement, BeginsWithBerElement, HasBerElement, element_of_ber}
use Rattle.asn1_any.specs.declared.read.TheConstants.{MAX_RECURSION}
use Rattle.asn1_traits.specs.Reads.{IsNoMemory}
use Rattle.asn1_traits.specs.Elements.{EndsWithinElement, EndsWithinBerElement}

-- an element of definite length with this header and this content begins the octets, and the rest
-- comes after it
pub record DerHeaded (octets : List ℕ) (header : Header) (content rest : List ℕ) : Type 0 where
  pub begins : BeginsWithElement octets (element_of (head_of header) content) rest
  pub told : length_of header ≡ Definite (length content)

-- a BER element with this header and this content
pub record BerHeaded (octets : List ℕ) (header : Header) (content rest : List ℕ) : Type 0 where
  pub begins : BeginsWithBerElement (MAX_RECURSION - 1) octets (record { head = ber_head_of header; content = content }) rest

-- a BER element that says this
pub record BerBegins (octets : List ℕ) (e : Element) (rest : List ℕ) : Type 0 where
  pub element : BerElement
  pub begins : BeginsWithBerElement (MAX_RECURSION - 1) octets element rest
  pub says : element_of_ber element ≡ e

-- no octet is left, or a whole element of another tag number is next, whatever its class
abbrev pub IsOther : (Element → List ℕ → Type 0) → ℕ → List ℕ → Type 0
IsOther Begins tag octets = (octets ≡ []) ⊎ ((e : Element) × (rest : List ℕ) × Begins e rest × (e.tag ≢ tag))

-- octets are left, and no whole element is next but one of this tag number and another class
pub record IsUnfit (Begins : Element → List ℕ → Type 0) (class tag : ℕ) (octets : List ℕ) : Type 0 where
  pub some : octets ≢ []
  pub only : (e : Element) (rest : List ℕ) → Begins e rest → (e.tag ≡ tag) × (e.class ≢ class)

-- the octets end within an element, so many octets are missing, and with fewer of them more none
-- begins them
pub record LacksElement (octets : List ℕ) (n : Needed) : Type 0 where
  pub ends : EndsWithinElement octets n
  pub missing : IsMissing HasElement octets (refusals.Incomplete n)

pub record LacksBerElement (octets : List ℕ) (n : Needed) : Type 0 where
  pub ends : EndsWithinBerElement octets n
  pub missing : IsMissing (HasBerElement (MAX_RECURSION - 1)) octets (refusals.Incomplete n)

-- an error, not out of memory: it says that octets are missing exactly if they are (`Lacks`)
abbrev pub IsRefusal : {E : Type 0} → (Error → E → Type 0) → (Needed → Type 0) → Refusal E → Type 0
IsRefusal gives Lacks (refusals.Incomplete n) = Lacks n
IsRefusal gives Lacks (refusals.Error e) = IsNoMemory gives e × ((n : Needed) → Lacks n → ⊥)
IsRefusal gives Lacks (refusals.Failure e) = ⊥

abbrev pub IsRefused : {A E : Type 0} → (Error → E → Type 0) → (Needed → Type 0) → Result A (Refusal E) → Type 0
IsRefused gives Lacks (Ok x) = ⊥
IsRefused gives Lacks (Err r) = IsRefusal gives Lacks r

-- the closure's value before the octets after the element, or its error; `at` are the octets of a
-- window
abbrev pub HandsOn : {V E I : Type 0} → (I → List ℕ) → List ℕ → Result (I × V) (Refusal E) → Result (I × Option V) (Refusal E) → Type 0
HandsOn at rest (Ok q) (Ok r) = (at r.0 ≡ rest) × (r.1 ≡ Some q.1)
HandsOn at rest (Ok q) (Err e) = ⊥
HandsOn at rest (Err e) (Ok r) = ⊥
HandsOn at rest (Err e) (Err x) = x ≡ e

-- an element of this class and tag number was passed to the closure, and its result is returned
pub record Handed {V E I : Type 0} (at : I → List ℕ) (Headed : Header → List ℕ → List ℕ → Type 0) (post : Header → I → Result (I × V) (Refusal E) → Type 0) (class : Class) (tag : Tag)
    (r : Result (I × Option V) (Refusal E)) : Type 0 where
  pub header : Header
  pub content : I
  pub rest : List ℕ
  pub headed : Headed header (at content) rest
  pub class_is : class_of header ≡ class
  pub tag_is : tag_of header ≡ tag
  pub answer : Result (I × V) (Refusal E)
  pub called : post header content answer
  pub handed : HandsOn at rest answer r

-- nothing is there, and the octets are left
pub record Absent {V E I : Type 0} (at : I → List ℕ) (Begins : Element → List ℕ → Type 0) (tag : Tag) (octets : List ℕ) (r : Result (I × Option V) (Refusal E)) : Type 0 where
  pub other : IsOther Begins tag.0 octets
  pub answer : IsOkAnd r (λ x. (at x.0 ≡ octets) × (x.1 ≡ None))

-- nothing was passed to the closure: the octets are rejected
pub record Refused {A E : Type 0} (gives : Error → E → Type 0) (Lacks : Needed → Type 0) (Begins : Element → List ℕ → Type 0) (class : Class) (tag : Tag) (octets : List ℕ) (r : Result A (Refusal E)) : Type 0 where
  pub unfit : IsUnfit Begins (class_number class) tag.0 octets
  pub answer : IsRefused gives Lacks r

-- one of the three
abbrev pub Parsed : {V E I : Type 0} → (Error → E → Type 0) → (Needed → Type 0) → (I → List ℕ) → (Header → List ℕ → List ℕ → Type 0) → (Element → List ℕ → Type 0) →
    (Header → I → Result (I × V) (Refusal E) → Type 0) → Class → Tag → List ℕ → Result (I × Option V) (Refusal E) → Type 0
Parsed gives Lacks at Headed Begins post class tag octets r =
    Handed at Headed post class tag r ⊎ (Absent at Begins tag octets r ⊎ Refused gives Lacks Begins class tag octets r)

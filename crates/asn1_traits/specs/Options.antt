-- Values that may be absent: the tag number of the next header decides it. Its class isn't
-- compared.
use Rattle.std.specs.Prelude.{◌≡◌, ◌≢◌, ◌⊎◌, ℕ, Option, Some, None, List, [], ◌++◌, Err}
use Rattle.asn1_core.specs.Elements.{Element}
use Rattle.asn1_core.specs.Strict.{Head, IsHead}
use Rattle.asn1_core.specs.Reading.{header_at, ber_header_at}
use Rattle.asn1_core.specs.declared.error.Needed.{Needed}
use Rattle.asn1_core.specs.declared.outcome.Err.TheVariants as refusals
use Rattle.asn1_core.specs.Lenient.{SpellsHeader, BerHead, IsBerHead, SpellsBerHeader}

-- a header of definite length begins the octets, and has this tag number
pub record BeginsWithTag (octets : List ℕ) (tag : ℕ) : Type 0 where
  pub head : Head
  pub front : List ℕ
  pub rest : List ℕ
  pub in_range : IsHead head
  pub spells : SpellsHeader front head
  pub whole : octets ≡ front ++ rest
  pub tells : head.tag ≡ tag

-- a BER header begins the octets, and has this tag number
pub record BeginsWithBerTag (octets : List ℕ) (tag : ℕ) : Type 0 where
  pub head : BerHead
  pub front : List ℕ
  pub rest : List ℕ
  pub in_range : IsBerHead head
  pub spells : SpellsBerHeader front head
  pub whole : octets ≡ front ++ rest
  pub tells : head.tag ≡ tag

-- no octet is left, or a header has another tag number than the wanted one
abbrev pub IsAbsent : (List ℕ → ℕ → Type 0) → ℕ → List ℕ → Type 0
IsAbsent Begins tag octets = (octets ≡ []) ⊎ ((other : ℕ) × (other ≢ tag) × Begins octets other)

-- a value after a header of the wanted tag number; or none, and the octets are left
abbrev pub OptionReads : {V : Type 0} → (List ℕ → ℕ → Type 0) → ℕ → (List ℕ → V → List ℕ → Type 0) → List ℕ → Option V → List ℕ → Type 0
OptionReads Begins tag reads octets (Some v) rest = Begins octets tag × reads octets v rest
OptionReads Begins tag reads octets None rest = IsAbsent Begins tag octets × (rest ≡ octets)

-- the octets end within a header: its reader says that so many are missing
abbrev pub EndsWithinHeader : List ℕ → Needed → Type 0
EndsWithinHeader octets n = header_at octets ≡ Err (refusals.Incomplete n)

abbrev pub EndsWithinBerHeader : List ℕ → Needed → Type 0
EndsWithinBerHeader octets n = ber_header_at octets ≡ Err (refusals.Incomplete n)

-- octets that aren't empty end within a header, or within a value after a header of the wanted tag
-- number
abbrev pub OptionCut : (List ℕ → Needed → Type 0) → (List ℕ → ℕ → Type 0) → ℕ → (List ℕ → Needed → Type 0) → List ℕ → Needed → Type 0
OptionCut Ends Begins tag Cut octets n = (octets ≢ []) × (Ends octets n ⊎ (Begins octets tag × Cut octets n))

-- a present value's element, or nothing
abbrev pub option_element : {V : Type 0} → (V → Option Element) → Option V → Option Element
option_element element None = None
option_element element (Some v) = element v

-- what a present value has; an absent one has it
abbrev pub WhereSome : {V : Type 0} → (V → Type 0) → Option V → Type 0
WhereSome P None = Unit {0}
WhereSome P (Some v) = P v

-- what a present value has; an absent one hasn't
abbrev pub OnlySome : {V : Type 0} → (V → Type 0) → Option V → Type 0
OnlySome P None = ⊥
OnlySome P (Some v) = P v

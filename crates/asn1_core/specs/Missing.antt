-- What `Incomplete` says: with fewer octets than its number, the octets still begin with no header.
use Rattle.std.specs.Prelude.{◌≡◌, ℕ, ◌<◌, List, ◌++◌, length}
use Rattle.asn1_core.specs.Strict.{Head, IsHead, strict_header}
use Rattle.asn1_core.specs.Lenient.{SpellsHeader, BerHead, IsBerHead, SpellsBerHeader}
use Rattle.asn1_core.specs.declared.error.Error.{Error}
use Rattle.asn1_core.specs.declared.error.Needed.TheVariants as needed
use Rattle.asn1_core.specs.declared.outcome.Err.{Err as Refusal}
use Rattle.asn1_core.specs.declared.outcome.Err.TheVariants as refusals

-- a strict header begins the octets
abbrev pub HasStrictHeader : List ℕ → Type 0
HasStrictHeader octets = (h : Head) × (rest : List ℕ) × IsHead h × (octets ≡ strict_header h ++ rest)

-- a header of definite length, in any of its forms, begins the octets
abbrev pub HasHeader : List ℕ → Type 0
HasHeader octets = (h : Head) × (front : List ℕ) × (rest : List ℕ) × IsHead h × SpellsHeader front h × (octets ≡ front ++ rest)

-- a BER header begins the octets
abbrev pub HasBerHeader : List ℕ → Type 0
HasBerHeader octets = (h : BerHead) × (front : List ℕ) × (rest : List ℕ) × IsBerHead h × SpellsBerHeader front h × (octets ≡ front ++ rest)

-- if octets are missing, their number is given, and what was wanted never begins the octets with
-- fewer than so many more
abbrev pub IsMissing : (List ℕ → Type 0) → List ℕ → Refusal Error → Type 0
IsMissing Begins octets (refusals.Incomplete needed.Unknown) = ⊥
IsMissing Begins octets (refusals.Incomplete (needed.Size n)) = (0 < n) × ((more : List ℕ) → length more < n → ¬ Begins (octets ++ more))
IsMissing Begins octets (refusals.Error e) = Unit {0}
IsMissing Begins octets (refusals.Failure e) = Unit {0}

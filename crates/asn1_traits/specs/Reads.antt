-- What a reader returns: a value that the octets mean, or an error if they mean none.
use Rattle.std.specs.Prelude.{◌≡◌, ◌≢◌, ◌⊎◌, ◌<◌, List, ◌++◌, length, ℕ, Result, Ok, Err}
use Rattle.asn1_core.specs.Elements.{Element}
use Rattle.asn1_core.specs.declared.error.Error.{Error}
use Rattle.asn1_core.specs.declared.error.Error.TheVariants as errors
use Rattle.asn1_core.specs.declared.error.Needed.{Needed}
use Rattle.asn1_core.specs.declared.error.Needed.TheVariants as needed
use Rattle.asn1_core.specs.declared.outcome.Err.{Err as Refusal}
use Rattle.asn1_core.specs.declared.outcome.Err.TheVariants as refusals
use Rattle.asn1_any.specs.BerElements.{BerElement, element_of_ber}

-- the error isn't out of memory: another error was converted to it, or nothing converts out of
-- memory to it
abbrev pub IsNoMemory : {E : Type 0} → (Error → E → Type 0) → E → Type 0
IsNoMemory gives e = ((x : Error) × (x ≢ errors.OutOfMemory) × gives x e) ⊎ (gives errors.OutOfMemory e → ⊥)

-- an error on what is whole, and what it says: there is no value, and no octet is missing. A
-- failure says nothing but that memory ran out, if reading may allocate (`grows`), and nothing else
-- says that.
abbrev pub Refuses : {E : Type 0} → (Error → E → Type 0) → Type 0 → Refusal E → Type 0 → Type 0
Refuses gives grows (refusals.Incomplete n) none = ⊥
Refuses gives grows (refusals.Error e) none = none × IsNoMemory gives e
Refuses gives grows (refusals.Failure e) none = gives errors.OutOfMemory e × grows

-- the element means no value
abbrev pub NoValue : {X V : Type 0} → (X → V → Type 0) → X → Type 0
NoValue {V = V} means e = (v : V) → means e v → ⊥

-- a value of the element, or an error if it has none
abbrev pub ReadsOf : {X V E : Type 0} → (Error → E → Type 0) → Type 0 → (X → V → Type 0) → X → Result V (Refusal E) → Type 0
ReadsOf gives grows means e (Ok v) = means e v
ReadsOf gives grows means e (Err r) = Refuses gives grows r (NoValue means e)

-- the octets begin with no value
abbrev pub NoneReads : {V : Type 0} → (List ℕ → V → List ℕ → Type 0) → List ℕ → Type 0
NoneReads {V} reads octets = (v : V) (rest : List ℕ) → reads octets v rest → ⊥

-- so many octets are missing at least: with fewer of them more the octets still begin with no value
abbrev pub Lacks : {V : Type 0} → (List ℕ → V → List ℕ → Type 0) → List ℕ → Needed → Type 0
Lacks reads octets needed.Unknown = ⊥
Lacks reads octets (needed.Size n) = (0 < n) × ((more : List ℕ) → length more < n → NoneReads reads (octets ++ more))

-- an error on octets that may go on: `Cut` says that they end within what is read, and how many are
-- missing; then, and only then, the error says that octets are missing
abbrev pub RefusesAt : {V E : Type 0} → (Error → E → Type 0) → Type 0 → (List ℕ → Needed → Type 0) → (List ℕ → V → List ℕ → Type 0) → List ℕ → Refusal E → Type 0
RefusesAt gives grows Cut reads octets (refusals.Incomplete n) = Cut octets n × Lacks reads octets n
RefusesAt gives grows Cut reads octets (refusals.Error e) = NoneReads reads octets × IsNoMemory gives e × ((n : Needed) → Cut octets n → ⊥)
RefusesAt gives grows Cut reads octets (refusals.Failure e) = gives errors.OutOfMemory e × grows

-- a value that begins the octets, with the octets after it, or an error if none does; `at` are the
-- octets of a window
abbrev pub Reads : {V E I : Type 0} → (Error → E → Type 0) → Type 0 → (List ℕ → Needed → Type 0) → (I → List ℕ) → (List ℕ → V → List ℕ → Type 0) → List ℕ → Result (I × V) (Refusal E) → Type 0
Reads gives grows Cut at reads octets (Ok x) = reads octets x.1 (at x.0)
Reads gives grows Cut at reads octets (Err r) = RefusesAt gives grows Cut reads octets r

-- the constraints are met, or an error, never out of memory, says that they aren't
abbrev pub Checks : (Element → Type 0) → Element → Result (Unit {0}) Error → Type 0
Checks allows e (Ok x) = allows e
Checks allows e (Err x) = (x ≢ errors.OutOfMemory) × (allows e → ⊥)

-- both the value's meaning and the constraints, which don't look at the length
abbrev pub AndAllowed : {V : Type 0} → (BerElement → V → Type 0) → (Element → Type 0) → BerElement → V → Type 0
AndAllowed means allows e v = means e v × allows (element_of_ber e)

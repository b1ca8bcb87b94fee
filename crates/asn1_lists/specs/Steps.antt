-- What an iterator gives over the content octets of a sequence or a set (X.690, 8.9 to 8.12).
use Rattle.std.specs.Prelude.{◌≡◌, ◌≢◌, ◌<◌, ℕ, List, [], ◌∷◌, length, Option, Some, None, Result, Ok, Err}
use Rattle.std.specs.Iterator.{YieldsThen}
use Rattle.asn1_core.specs.declared.error.Error.{Error}
use Rattle.asn1_core.specs.declared.error.Error.TheVariants as errors
use Rattle.asn1_core.specs.declared.outcome.Err.{Err as Refusal}
use Rattle.asn1_core.specs.declared.outcome.Err.TheVariants as refusals
use Rattle.asn1_traits.specs.Reads.{Refuses}
use Rattle.asn1_traits.specs.Lists.{AllRead}

-- no value that takes an octet at least begins the octets
abbrev pub NoneTakes : {V : Type 0} → (List ℕ → V → List ℕ → Type 0) → List ℕ → Type 0
NoneTakes {V} reads octets = (v : V) (rest : List ℕ) → reads octets v rest → length rest < length octets → ⊥

-- `grows`: reading a value may allocate. What one call gives: the value at the front of the octets
-- that are left, and the octets after it are left then; or nothing, if no octet is left; or an
-- error, if no value is at the front, and then nothing is left
abbrev pub Steps : {V E : Type 0} → (Error → E → Type 0) → Type 0 → (List ℕ → V → List ℕ → Type 0) → List ℕ → Option (Result V (Refusal E)) → List ℕ → Type 0
Steps gives grows reads octets None rest = (octets ≡ []) × (rest ≡ [])
Steps gives grows reads octets (Some (Ok v)) rest = reads octets v rest × (length rest < length octets)
Steps gives grows reads octets (Some (Err r)) rest = (octets ≢ []) × Refuses gives grows r (NoneTakes reads octets) × (rest ≡ [])

-- what the calls to the end give: the values of the octets, one after another, to their end, or an
-- error if none begins those that are left; nothing comes after an error
abbrev pub Given : {V E : Type 0} → (Error → E → Type 0) → Type 0 → (List ℕ → V → List ℕ → Type 0) → List ℕ → List (Result V (Refusal E)) → Type 0
Given gives grows reads octets [] = octets ≡ []
Given gives grows reads octets (Ok v ∷ answers) = (rest : List ℕ) × reads octets v rest × (length rest < length octets) × Given gives grows reads rest answers
Given gives grows reads octets (Err r ∷ answers) = (octets ≢ []) × Refuses gives grows r (NoneTakes reads octets) × (answers ≡ [])

-- the calls to the first that gives nothing, and that one
abbrev pub GivesToEnd : {V E : Type 0} → (Error → E → Type 0) → Type 0 → (List ℕ → V → List ℕ → Type 0) → Type 0
GivesToEnd {V} {E} gives grows reads = (octets rest : List ℕ) (answers : List (Result V (Refusal E))) → YieldsThen (Steps gives grows reads) octets answers None rest → Given gives grows reads octets answers

-- nothing left is nothing given
abbrev pub EndsForGood : {V E : Type 0} → (Error → E → Type 0) → Type 0 → (List ℕ → V → List ℕ → Type 0) → Type 0
EndsForGood {V} {E} gives grows reads = (rest : List ℕ) (answer : Option (Result V (Refusal E))) → Steps gives grows reads [] answer rest → (answer ≡ None) × (rest ≡ [])

-- these values, or those before one at which memory ran out
abbrev pub ValuesOr : {V E : Type 0} → (Error → E → Type 0) → List (Result V (Refusal E)) → Type 0
ValuesOr gives [] = Unit {0}
ValuesOr gives (Ok v ∷ answers) = ValuesOr gives answers
ValuesOr gives (Err (refusals.Incomplete n) ∷ answers) = ⊥
ValuesOr gives (Err (refusals.Error e) ∷ answers) = ⊥
ValuesOr gives (Err (refusals.Failure e) ∷ answers) = gives errors.OutOfMemory e

-- octets that are values and nothing else are given as values alone
abbrev pub GivesValues : {V E : Type 0} → (Error → E → Type 0) → Type 0 → (List ℕ → V → List ℕ → Type 0) → Type 0
GivesValues {V} {E} gives grows reads = (octets : List ℕ) (vs : List V) (answers : List (Result V (Refusal E))) → AllRead reads octets vs → Given gives grows reads octets answers → ValuesOr gives answers

-- A closure that reads items one after the other.
use Rattle.std.specs.Prelude.{◌≡◌, ◌⊎◌, ℕ, ◌<◌, ◌≤◌, List, [], ◌∷◌, length, Result, Ok, Err, Vec}
use Rattle.std.specs.Global.{Global}
use Rattle.std.specs.Borrow.{Bor}
use Rattle.asn1_core.specs.declared.error.Error.{Error}
use Rattle.asn1_core.specs.declared.error.Error.TheVariants as errors
use Rattle.asn1_core.specs.declared.error.ErrorKind.TheVariants as kinds
use Rattle.asn1_core.specs.declared.outcome.Err.{Err as Refusal}
use Rattle.asn1_core.specs.declared.outcome.Err.TheVariants as refusals
use Rattle.asn1_core.specs.Conversions.{FailsForMemory, RefusesWith, TellsWhole}
use Rattle.der_parser.specs.Handed.{Handed, Unwanted}

-- call by call, these items were read of the octets, and the rest is left; each item took an octet
-- at least
abbrev pub Takes : {T E : Type 0} → (Bor (List ℕ) → Result (Bor (List ℕ) × T) (Refusal E) → Type 0) → List ℕ → List T → List ℕ → Type 0
Takes post octets [] rest = octets ≡ rest
Takes post octets (x ∷ xs) rest = (i : Bor (List ℕ)) × (after : Bor (List ℕ)) × (i.now ≡ octets) × post i (Ok (after, x)) × (length after.now < length octets) × Takes post after.now xs rest

-- why no further item is read of the octets
pub data Stops {T E : Type 0} (gives : Error → E → Type 0) (post : Bor (List ℕ) → Result (Bor (List ℕ) × T) (Refusal E) → Type 0) (octets : List ℕ) (r : Refusal E) : Type 0 where
  refused : (i : Bor (List ℕ)) → (q : Refusal E) → i.now ≡ octets → post i (Err q) → TellsWhole gives q r → Stops gives post octets r
  no_octet_taken : (i after : Bor (List ℕ)) → (x : T) → i.now ≡ octets → post i (Ok (after, x)) → length octets ≤ length after.now → RefusesWith gives (errors.NomError kinds.Many0) r → Stops gives post octets r
  no_memory : FailsForMemory gives r → Stops gives post octets r

-- some items were read, and then no further one of the octets that are left
pub record StopsEarly {T E : Type 0} (gives : Error → E → Type 0) (post : Bor (List ℕ) → Result (Bor (List ℕ) × T) (Refusal E) → Type 0) (octets : List ℕ) (r : Refusal E) : Type 0 where
  pub items : List T
  pub rest : List ℕ
  pub some : 0 < length rest
  pub read : Takes post octets items rest
  pub stops : Stops gives post rest r

-- all octets are items, or an item is missing
abbrev pub ReadsEach : {T E : Type 0} → (Error → E → Type 0) → (Bor (List ℕ) → Result (Bor (List ℕ) × T) (Refusal E) → Type 0) → List ℕ → Result (Vec T Global) (Refusal E) → Type 0
ReadsEach gives post octets (Ok v) = Takes post octets v.items []
ReadsEach gives post octets (Err r) = StopsEarly gives post octets r

-- the content of an element of a tag number is items, or an item is missing
abbrev pub HandsItems : {T E : Type 0} → (Error → E → Type 0) → ℕ → (Bor (List ℕ) → Result (Bor (List ℕ) × T) (Refusal E) → Type 0) → List ℕ → Result (Bor (List ℕ) × Vec T Global) (Refusal E) → Type 0
HandsItems gives n post octets (Ok p) = Handed n (λ front content header. Takes post content.now p.1.items []) octets p.0.now
HandsItems gives n post octets (Err r) = ((rest : List ℕ) × Handed n (λ front content header. StopsEarly gives post content.now r) octets rest) ⊎ Unwanted gives n octets r

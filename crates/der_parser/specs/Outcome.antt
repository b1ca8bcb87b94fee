-- What a reader returns: a value that begins the octets, with the octets after it, or an error if
-- none does.
use Rattle.std.specs.Prelude.{ℕ, List, Result, Ok, Err}
use Rattle.std.specs.Borrow.{Bor}
use Rattle.asn1_core.specs.declared.error.Error.{Error}
use Rattle.asn1_core.specs.declared.outcome.Err.{Err as Refusal}
use Rattle.asn1_core.specs.Answers.{TakesNoMemory}
use Rattle.asn1_core.specs.Missing.{IsMissing}
use Rattle.der_tree.specs.Outcome.{Refuses}

-- a value begins the octets
abbrev pub Begins : {V : Type 0} → (List ℕ → V → List ℕ → Type 0) → List ℕ → Type 0
Begins {V} reads octets = (v : V) × (rest : List ℕ) × reads octets v rest

-- of a call that takes no memory; if octets are missing, no value begins these with fewer than
-- so many more
abbrev pub Reads : {X V : Type 0} → (X → V) → (List ℕ → V → List ℕ → Type 0) → List ℕ → Result (Bor (List ℕ) × X) (Refusal Error) → Type 0
Reads view reads octets (Ok p) = reads octets (view p.1) p.0.now
Reads view reads octets (Err e) = (Begins reads octets → ⊥) × IsMissing (Begins reads) octets e × TakesNoMemory e

-- a call that takes memory; if octets are missing, no value begins these with fewer than so many
-- more
abbrev pub ReadsOrWants : {X V : Type 0} → (X → V) → (List ℕ → V → List ℕ → Type 0) → List ℕ → Result (Bor (List ℕ) × X) (Refusal Error) → Type 0
ReadsOrWants view reads octets (Ok p) = reads octets (view p.1) p.0.now
ReadsOrWants view reads octets (Err e) = Refuses e (Begins reads octets → ⊥) × IsMissing (Begins reads) octets e

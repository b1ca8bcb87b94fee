-- A value with a tag, or none: the tag number of the next header decides it, and its class isn't
-- compared.
use Rattle.std.specs.Prelude.{◌≡◌, ℕ, Option, Some, None, List}
use Rattle.asn1_traits.specs.Options.{IsAbsent}

-- a present value is read as one that isn't optional; an absent one leaves the octets
abbrev pub OptTaggedReads : {V : Type 0} → (List ℕ → ℕ → Type 0) → ℕ → (List ℕ → V → List ℕ → Type 0) → List ℕ → Option V → List ℕ → Type 0
OptTaggedReads Begins tag reads octets (Some v) rest = reads octets v rest
OptTaggedReads Begins tag reads octets None rest = IsAbsent Begins tag octets × (rest ≡ octets)

-- What the writer of components returns.
use Rattle.std.specs.Prelude.{◌≡◌, ℕ, ◌+◌, ◌⊎◌, List, [], ◌∷◌}
use Rattle.asn1_core.specs.declared.error.Error.{Error}
use Rattle.asn1_core.specs.declared.error.Error.TheVariants as errors
use Rattle.asn1_oid.specs.Identifier.{CanBeSpelled}

-- components that can't be spelled are a bad value; for others the only error is out of memory
abbrev pub RefusesComponents : List ℕ → Error → Type 0
RefusesComponents components e =
    ((CanBeSpelled components → ⊥) × (e ≡ errors.BerValueError)) ⊎ (CanBeSpelled components × (e ≡ errors.OutOfMemory))

-- digits below 128 as octets, each with bit 8 set
abbrev pub high : List ℕ → List ℕ
high [] = []
high (d ∷ ds) = (128 + d) ∷ high ds

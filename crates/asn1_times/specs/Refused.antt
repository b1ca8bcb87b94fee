-- Why content octets are rejected.
use Rattle.std.specs.Prelude.{◌≡◌, ℕ}
use Rattle.asn1_core.specs.declared.error.Error.{Error}
use Rattle.asn1_core.specs.declared.error.Error.TheVariants as errors

-- they are no value of the tag number's type
abbrev pub IsInvalidValue : ℕ → Error → Type 0
IsInvalidValue tag (errors.InvalidValue t msg) = t.0 ≡ tag
IsInvalidValue tag e = ⊥

-- Why a certificate is not usable at a moment: each reason is a clause of `IsUsable` that fails
-- (RFC 5280, 6.1.3 and 6.1.4).
use Rattle.std.specs.Prelude.{◌≡◌, ℕ, List, take, Any}
use Rattle.cert_graph.specs.Entries.{IsAt}
use Rattle.cert_model.specs.Fields.{Identifier, CivilTime, Extension, Certificate}
use Rattle.cert_model.specs.Extended.{basic_constraints, key_usage}
use Rattle.cert_judge.specs.Moments.{IsNotAfter}
use Rattle.cert_judge.specs.Judging.{HasConstraints, HasUsage, IsProcessed}
use Rattle.cert_reasons.specs.declared.certificates.Unusable.{Unusable}
use Rattle.cert_reasons.specs.declared.certificates.Unusable.TheVariants.{NotYetValid, Expired, Repeats, Unprocessed, BadConstraints, BadUsage}

-- an extension of its identifier comes before the one at a position (RFC 5280, 4.2)
abbrev pub IsRepeat : List Extension → ℕ → Type 0
IsRepeat es k = IsAt es k (λ e. Any (λ d. d.identifier ≡ e.identifier) (take k es))

-- A reason applies to a certificate at a moment, if the caller processes extensions of some
-- identifiers. Extensions are counted from 0.
abbrev pub HasReason : (Identifier → Type 0) → CivilTime → Certificate → Unusable → Type 0
HasReason P moment c NotYetValid = IsNotAfter c.not_before moment → ⊥
HasReason P moment c Expired = IsNotAfter moment c.not_after → ⊥
HasReason P moment c (Repeats k) = IsRepeat c.extensions k
HasReason P moment c (Unprocessed k) = IsAt c.extensions k (λ e. IsProcessed P e → ⊥)
HasReason P moment c (BadConstraints k) = IsAt c.extensions k (λ e. (e.identifier ≡ basic_constraints) × (HasConstraints e.value → ⊥))
HasReason P moment c (BadUsage k) = IsAt c.extensions k (λ e. (e.identifier ≡ key_usage) × (HasUsage e.value → ⊥))

-- the order of reasons: that of the clauses, then that of the extensions in the certificate
abbrev pub order_of : Unusable → ℕ × ℕ
order_of NotYetValid = (0, 0)
order_of Expired = (1, 0)
order_of (Repeats k) = (2, k)
order_of (Unprocessed k) = (3, k)
order_of (BadConstraints k) = (4, k)
order_of (BadUsage k) = (5, k)

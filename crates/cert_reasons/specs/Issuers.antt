-- Why a usable certificate may not issue others: each reason is a clause of `MayIssue` that fails
-- (RFC 5280, 6.1.4, k and n).
use Rattle.std.specs.Prelude.{◌≡◌, ℕ}
use Rattle.cert_graph.specs.Entries.{IsAt}
use Rattle.cert_model.specs.Fields.{Certificate}
use Rattle.cert_model.specs.Extended.{basic_constraints, key_usage, name_constraints, policy_constraints, SomeUnder}
use Rattle.cert_judge.specs.Judging.{IsAuthority, IsSigner}
use Rattle.cert_reasons.specs.declared.issuers.NoIssuer.{NoIssuer}
use Rattle.cert_reasons.specs.declared.issuers.NoIssuer.TheVariants.{NoAuthority, NoCertSigning, NameConstraints, PolicyConstraints}

-- A reason applies to a certificate as an issuer. Extensions are counted from 0.
abbrev pub HasIssuerReason : Certificate → NoIssuer → Type 0
HasIssuerReason c NoAuthority = SomeUnder basic_constraints IsAuthority c.extensions → ⊥
HasIssuerReason c (NoCertSigning k) = IsAt c.extensions k (λ e. (e.identifier ≡ key_usage) × (IsSigner e.value → ⊥))
HasIssuerReason c (NameConstraints k) = IsAt c.extensions k (λ e. e.identifier ≡ name_constraints)
HasIssuerReason c (PolicyConstraints k) = IsAt c.extensions k (λ e. e.identifier ≡ policy_constraints)

abbrev pub issuer_order : NoIssuer → ℕ × ℕ
issuer_order NoAuthority = (0, 0)
issuer_order (NoCertSigning k) = (1, k)
issuer_order (NameConstraints k) = (2, k)
issuer_order (PolicyConstraints k) = (3, k)

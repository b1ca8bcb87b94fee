-- What is processed if something is demanded.
use Rattle.std.specs.Prelude.{◌↔◌}
use Rattle.std.proofs.Common.{◌≡◌, refl, ℕ, true, List, [], ◌∷◌, inl, inr, lit<}
use Rattle.cert_model.specs.Fields.{Identifier, Extension}
use Rattle.cert_model.specs.Extended.{basic_constraints, key_usage, name_constraints, EachUnder}
use Rattle.cert_judge.specs.Judging.{HasConstraints, HasUsage, IsProcessed, IsUsable}
use Rattle.cert_judge.specs.Examples.{in_june, extension}
use Rattle.cert_judge.proofs.Examples.{june_valid, alone_distinct, one}
use Rattle.cert_purpose.specs.Purposes.{extended_key_usage}
use Rattle.cert_purpose.specs.Examples.{for_servers}
use Rattle.cert_serving.specs.Serving.{subject_alt_name}
use Rattle.cert_serving.specs.Demanding.{IsProcessedFor}
use Rattle.cert_serving.specs.Examples.{star_value, of_purpose, of_host, critical}

-- a certificate whose one extension is critical, and isn't judged by itself, is usable if the
-- caller processes it
one_critical : (P : Identifier → Type 0) (identifier : Identifier) (value : List ℕ) → (identifier ≡ basic_constraints → ⊥) → (identifier ≡ key_usage → ⊥) → IsUsable P in_june (critical identifier value) ↔ P identifier
unfolding EachUnder IsProcessed
one_critical P identifier value not_basic not_usage =
    let e = extension identifier true value in (
      λ u. elim (u.extensions.processed 0 e (lit< tt) refl) [ inl here ↦ elim here [ inl same ↦ absurd (not_basic same) | inr same ↦ absurd (not_usage same) ] | inr more ↦ more ],
      λ p. record {
        valid = june_valid;
        extensions = record {
          distinct = alone_distinct e;
          processed = one (IsProcessed P) e (λ c. inr p);
          constraints = one (λ (x : Extension). x.identifier ≡ basic_constraints → HasConstraints x.value) e (λ same. absurd (not_basic same));
          usage = one (λ (x : Extension). x.identifier ≡ key_usage → HasUsage x.value) e (λ same. absurd (not_usage same));
        };
      },
    )

usage_iff : (P : Identifier → Type 0) → IsUsable P in_june (critical extended_key_usage for_servers) ↔ P extended_key_usage
usage_iff P = one_critical P extended_key_usage for_servers (λ same. cc) (λ same. cc)

names_iff : (P : Identifier → Type 0) → IsUsable P in_june (critical subject_alt_name star_value) ↔ P subject_alt_name
names_iff P = one_critical P subject_alt_name star_value (λ same. cc) (λ same. cc)

pub with_purpose : IsUsable (IsProcessedFor of_purpose (2 ∷ [])) in_june (critical extended_key_usage for_servers)
with_purpose = (usage_iff (IsProcessedFor of_purpose (2 ∷ []))).1 (inl (refl, refl))

pub without_purpose : ¬ IsUsable (IsProcessedFor of_host (1 ∷ [])) in_june (critical extended_key_usage for_servers)
without_purpose u = elim ((usage_iff (IsProcessedFor of_host (1 ∷ []))).0 u) [ inl h ↦ let none = h.0 in cc | inr h ↦ let same = h.2 in cc ]

pub of_target : IsUsable (IsProcessedFor of_host (1 ∷ [])) in_june (critical subject_alt_name star_value)
of_target = (names_iff (IsProcessedFor of_host (1 ∷ []))).1 (inr (refl, refl, refl))

pub of_issuer : ¬ IsUsable (IsProcessedFor of_host (2 ∷ [])) in_june (critical subject_alt_name star_value)
of_issuer u = elim ((names_iff (IsProcessedFor of_host (2 ∷ []))).0 u) [ inl h ↦ let none = h.0 in cc | inr h ↦ let same = h.1 in cc ]

pub without_host : ¬ IsUsable (IsProcessedFor of_purpose (1 ∷ [])) in_june (critical subject_alt_name star_value)
without_host u = elim ((names_iff (IsProcessedFor of_purpose (1 ∷ []))).0 u) [ inl h ↦ let same = h.1 in cc | inr h ↦ let none = h.0 in cc ]

pub of_another : ¬ IsUsable (IsProcessedFor of_purpose (1 ∷ [])) in_june (critical name_constraints star_value)
of_another u =
    elim ((one_critical (IsProcessedFor of_purpose (1 ∷ [])) name_constraints star_value (λ same. cc) (λ same. cc)).0 u) [
      | inl h ↦ let same = h.1 in cc
      | inr h ↦ let same = h.2 in cc
    ]

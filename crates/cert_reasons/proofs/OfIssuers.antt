-- Reasons against issuers.
use Rattle.std.proofs.Common.{◌≡◌, ◌∙◌, ◌≤◌, ap, sym, subst, refl, ℕ, zero, suc, ◌<◌, List, [], length, arith}
use Rattle.std.specs.List.{Contains}
use Rattle.std.proofs.lemmas.List.{get_or_default}
use Rattle.cert_model.specs.Fields.{Extension, Certificate}
use Rattle.cert_model.specs.Extended.{EachUnder, IsWithout, key_usage}
use Rattle.cert_judge.specs.Judging.{IsSigner, MayIssue}
use Rattle.cert_judge.proofs.Grouping.{element}
use Rattle.cert_reasons.specs.declared.issuers.NoIssuer.{NoIssuer}
use Rattle.cert_reasons.specs.declared.issuers.NoIssuer.TheVariants.{NoAuthority, NoCertSigning, NameConstraints, PolicyConstraints}
use Rattle.cert_reasons.specs.Order.{AreAll}
use Rattle.cert_reasons.specs.Issuers.{HasIssuerReason, issuer_order}
use Rattle.cert_reasons.proofs.Certain.{up_to}

pub no_reason : (c : Certificate) (r : NoIssuer) → MayIssue c.extensions → HasIssuerReason c r → ⊥
unfolding EachUnder IsWithout
no_reason c NoAuthority m h = h m.authority
no_reason c (NoCertSigning k) m h = let e = element c.extensions k h.0 in (h.1 e.0).1 (m.signer k e.0 h.0 (h.1 e.0).0)
no_reason c (NameConstraints k) m h = let e = element c.extensions k h.0 in m.no_name_constraints k e.0 h.0 (h.1 e.0)
no_reason c (PolicyConstraints k) m h = let e = element c.extensions k h.0 in m.no_policy_constraints k e.0 h.0 (h.1 e.0)

-- a certificate to which no reason applies is not unfit to issue
pub not_unfit : (c : Certificate) → ((r : NoIssuer) → HasIssuerReason c r → ⊥) → (MayIssue c.extensions → ⊥) → ⊥
unfolding EachUnder IsWithout
not_unfit c none refuted =
    let es = c.extensions in
    none NoAuthority (λ authority.
    up_to (λ (e : Extension). e.identifier ≡ key_usage → IsSigner e.value) es
    (λ k x lt at bad. bad (λ a. absurd (none (NoCertSigning k) (lt, λ d. subst (λ (e : Extension). (e.identifier ≡ key_usage) × (IsSigner e.value → ⊥)) (at ∙ get_or_default es k x d lt) (a, λ b. bad (λ z. b)))))) (length es) (omega arith) (λ signer.
    refuted (record {
      authority = authority;
      signer = signer;
      no_name_constraints = λ k d lt e. none (NameConstraints k) (lt, λ x. ap (λ (y : Extension). y.identifier) (get_or_default es k x d lt) ∙ e);
      no_policy_constraints = λ k d lt e. none (PolicyConstraints k) (lt, λ x. ap (λ (y : Extension). y.identifier) (get_or_default es k x d lt) ∙ e);
    })))

reason_at : ℕ → ℕ → NoIssuer
reason_at zero k = NoAuthority
reason_at (suc zero) k = NoCertSigning k
reason_at (suc (suc zero)) k = NameConstraints k
reason_at (suc (suc (suc n))) k = PolicyConstraints k

abbrev again : ℕ × ℕ → NoIssuer
again p = reason_at p.0 p.1

told : (r : NoIssuer) → again (issuer_order r) ≡ r
unfolding reason_at
told NoAuthority = refl
told (NoCertSigning k) = refl
told (NameConstraints k) = refl
told (PolicyConstraints k) = refl

pub same_reason : (r s : NoIssuer) → issuer_order r ≡ issuer_order s → r ≡ s
same_reason r s e = sym (told r) ∙ ap again e ∙ told s

pub extension_place : (c : Certificate) (r : NoIssuer) (n kind : ℕ) → HasIssuerReason c r → (issuer_order r).0 ≡ kind → 1 ≤ kind → length c.extensions ≤ n → (issuer_order r).1 < n
extension_place c NoAuthority n kind h e le end = absurd (omega arith)
extension_place c (NoCertSigning k) n kind h e le end = let lt = h.0 in omega arith
extension_place c (NameConstraints k) n kind h e le end = let lt = h.0 in omega arith
extension_place c (PolicyConstraints k) n kind h e le end = let lt = h.0 in omega arith

pub authority_place : (r : NoIssuer) → (issuer_order r).0 ≡ 0 → (issuer_order r).1 < 1
authority_place NoAuthority e = omega arith
authority_place (NoCertSigning k) e = absurd (omega arith)
authority_place (NameConstraints k) e = absurd (omega arith)
authority_place (PolicyConstraints k) e = absurd (omega arith)

pub kinds_end : (r : NoIssuer) → (issuer_order r).0 < 4
kinds_end NoAuthority = omega arith
kinds_end (NoCertSigning k) = omega arith
kinds_end (NameConstraints k) = omega arith
kinds_end (PolicyConstraints k) = omega arith

pub all_of_issuer : (c : Certificate) → MayIssue c.extensions → AreAll issuer_order (HasIssuerReason c) []
all_of_issuer c m = record {
  exact = λ r. (λ h. let lt = h.1 in absurd (omega arith), λ h. absurd (no_reason c r m h));
  ordered = λ i j d lt end. absurd (omega arith);
}

pub none_stands : (c : Certificate) (rs : List NoIssuer) → AreAll issuer_order (HasIssuerReason c) rs → rs ≡ [] → (r : NoIssuer) → HasIssuerReason c r → ⊥
none_stands c rs all e r h = let at = subst (λ (xs : List NoIssuer). Contains xs r) e ((all.exact r).1 h) in let lt = at.1 in absurd (omega arith)

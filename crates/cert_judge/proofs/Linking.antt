-- What the code finds of two items is what the definitions say of them.
use Rattle.std.specs.Prelude.{◌↔◌, IfSome, IsSomeAnd}
use Rattle.std.proofs.Common.{◌≡◌, ap, subst, ℕ, List, Option, Some, None, Bor, option_map}
use Rattle.cert_graph.specs.Laws.{FitIsUsable}
use Rattle.cert_model.specs.Fields.{Certificate}
use Rattle.cert_model.specs.KeyIds.{IsAuthorityKeyId, IsSubjectKeyId}
use Rattle.cert_model.specs.Class.{certificate}
use Rattle.cert_judge.specs.Named.{NamesKeyId, HasKeyId}
use Rattle.cert_judge.specs.Revoking.{Item, JudgingContext}
use Rattle.cert_judge.specs.ItemGraph.{IsCertificateWith, graph_of_items}
use Rattle.cert_judge.proofs.Grouping.{one_certificate}

-- of an item that is a certificate
pub with_iff : (P : Certificate → Type 0) (x : Item) (c : Certificate) → x.class ≡ certificate c → IsCertificateWith P x ↔ P c
with_iff P x c e = (λ h. subst P (one_certificate x.class h.0 c h.1 e) h.2, λ p. (c, e, p))

one_held : {a b : List ℕ} → Some a ≡ Some b → a ≡ b
one_held e = cc

not_held : {a : List ℕ} → None ≡ Some a → ⊥
not_held e = cc

-- whoever is fit is usable
pub fit_is_usable : (r : JudgingContext) (items anchor_items : List Item) → FitIsUsable (graph_of_items r items anchor_items)
fit_is_usable r items anchor_items v h = (h.0, λ d. let f = h.1 d in (f.0, f.1, f.2.usable))

-- a reader that finds a key identifier and no other returns whether there is one
pub names_from : (c : Certificate) (o : Option (Bor (List ℕ))) → IfSome o (λ s. IsAuthorityKeyId c s.now) → ((id : List ℕ) → IsAuthorityKeyId c id → IsSomeAnd o (λ s. s.now ≡ id)) → NamesKeyId c (option_map (λ s. s.now) o)
names_from c (Some s) found only = ∣ (λ id. (λ h. ap Some (only id h), λ e. subst (IsAuthorityKeyId c) (one_held e) found)) ∣₁
names_from c None found only = ∣ (λ id. (λ h. absurd (only id h), λ e. absurd (not_held e))) ∣₁

pub owns_from : (c : Certificate) (o : Option (Bor (List ℕ))) → IfSome o (λ s. IsSubjectKeyId c s.now) → ((id : List ℕ) → IsSubjectKeyId c id → IsSomeAnd o (λ s. s.now ≡ id)) → HasKeyId c (option_map (λ s. s.now) o)
owns_from c (Some s) found only = ∣ (λ id. (λ h. ap Some (only id h), λ e. subst (IsSubjectKeyId c) (one_held e) found)) ∣₁
owns_from c None found only = ∣ (λ id. (λ h. absurd (only id h), λ e. absurd (not_held e))) ∣₁

-- What is found of a link is what the definitions say of it.
use Rattle.std.specs.Prelude.{◌↔◌, IsTrue}
use Rattle.std.proofs.Common.{◌≡◌, ◌∙◌, sym, subst, refl, ℕ, ◌<◌, Bool, true, false, Some, None, List, length, get_or}
use Rattle.std.proofs.Math.Logic.{∥∥₁_elim}
use Rattle.std.proofs.lemmas.List.{get_or_default}
use Rattle.jiff_core.specs.declared.civil.datetime.DateTime.{DateTime}
use Rattle.cert_graph.specs.Entries.{IsAt}
use Rattle.cert_model.specs.Fields.{Certificate}
use Rattle.cert_model.specs.Octets.{name_octets, key_octets}
use Rattle.cert_model.specs.Class.{certificate}
use Rattle.cert_judge.specs.ItemGraph.{IsCertificateWith, IsIssuedUnder, KeyIdsAgree, IsLink, IsAnchorLink}
use Rattle.cert_judge.specs.Items.{rules_by}
use Rattle.cert_judge.specs.Vouching.{Vouching}
use Rattle.cert_judge.specs.Named.{NamesKeyId, HasKeyId}
use Rattle.cert_judge.specs.Revoking.{Item, JudgingContext, HasUsedList}
use Rattle.cert_judge.proofs.Grouping.{one_name}
use Rattle.cert_judge.proofs.Linking.{with_iff}
use Rattle.cert_reasons.specs.declared.links.Unlinked.{Unlinked}
use Rattle.cert_reasons.specs.declared.links.Unlinked.TheVariants.{NotVouched, KeyIdsDiffer, RevokedBy, NoUsedList}
use Rattle.cert_reasons.specs.Links.{Revokes, HasLinkReason}

held : {a b : List ℕ} → Some a ≡ Some b → a ≡ b
held e = cc

empty : {a : List ℕ} → None ≡ Some a → ⊥
empty e = cc

-- ---- key identifiers

pub both_named : (c d : Certificate) (a s : List ℕ) → NamesKeyId c (Some a) → HasKeyId d (Some s) → (a ≡ s) ↔ KeyIdsAgree c d
both_named c d a s names has = (
  λ e b t eb et. ∥∥₁_elim names (one_name b t) (λ f. ∥∥₁_elim has (one_name b t) (λ g. sym (held ((f b).0 eb)) ∙ e ∙ held ((g t).0 et))),
  λ same. ∥∥₁_elim names (one_name a s) (λ f. ∥∥₁_elim has (one_name a s) (λ g. same a s ((f a).1 refl) ((g s).1 refl))),
)

pub none_named : (c d : Certificate) → NamesKeyId c None → KeyIdsAgree c d
none_named c d names a s ea es = ∥∥₁_elim names (one_name a s) (λ f. absurd (empty ((f a).0 ea)))

pub none_own : (c d : Certificate) → HasKeyId d None → KeyIdsAgree c d
none_own c d has a s ea es = ∥∥₁_elim has (one_name a s) (λ g. absurd (empty ((g s).0 es)))

-- ---- elements

-- what holds of the element at a position
pub there_at : {X : Type 0} (xs : List X) (k : ℕ) (x : X) → k < length xs → x ≡ get_or xs k x → (P : X → Type 0) → P x ↔ IsAt xs k P
there_at xs k x lt at P = (λ p. (lt, λ d. subst P (at ∙ get_or_default xs k x d lt) p), λ h. subst P (sym at) (h.1 x))

decided : (b : Bool) (P : Type 0) → (IsTrue b ↔ P) → ((P → ⊥) → ⊥) → P
decided true P h n = h.0 refl
decided false P h n = absurd (n (λ p. let e = h.1 p in cc))

-- if no reason applies, what was found shows the link
pub linked : (V : Vouching) (moment : DateTime) (demand : Bool) (items : List Item) (x : Item) (c : Certificate) (name key : List ℕ) (vouched agree : Bool) → name_octets c.issuer ≡ name → (IsTrue vouched ↔ V.Vouches key x.octets)
    → (((demand ≡ true) × (HasUsedList (rules_by moment demand V) items name key → ⊥) → ⊥) → demand ≡ true → HasUsedList (rules_by moment demand V) items name key)
    → ((reason : Unlinked) → HasLinkReason (rules_by moment demand V) items x c name key (IsTrue agree) reason → ⊥) → IsIssuedUnder (rules_by moment demand V) items x c name key × IsTrue agree
linked V moment demand items x c name key vouched agree named vouch list none = (
  record {
    issuer = named;
    vouched = decided vouched (V.Vouches key x.octets) vouch (none NotVouched);
    satisfied = record {
      kept = λ v. none (RevokedBy v.2.0) (v.2.1, λ d. subst (Revokes (rules_by moment demand V) name key c.serial) (sym v.2.2 ∙ get_or_default items v.2.0 v.0 d v.2.1) (v.1, v.3, v.4));
      listed = list (none NoUsedList);
    };
  },
  decided agree (IsTrue agree) (λ t. t, λ t. t) (none KeyIdsDiffer),
)

-- ---- links to items and to anchors

pub agreed : (r : JudgingContext) (items : List Item) (x : Item) (c : Certificate) (name key : List ℕ) (A B : Type 0) → (A ↔ B) → (reason : Unlinked) → HasLinkReason r items x c name key A reason ↔ HasLinkReason r items x c name key B reason
agreed r items x c name key A B i NotVouched = (λ h. h, λ h. h)
agreed r items x c name key A B i KeyIdsDiffer = (λ n b. n (i.1 b), λ n a. n (i.0 a))
agreed r items x c name key A B i (RevokedBy p) = (λ h. h, λ h. h)
agreed r items x c name key A B i NoUsedList = (λ h. h, λ h. h)

pub link_iff : (r : JudgingContext) (items : List Item) (x y : Item) (c d : Certificate) (name key : List ℕ) (A : Type 0) → x.class ≡ certificate c → y.class ≡ certificate d → name ≡ name_octets d.subject → key ≡ key_octets d.key → (A ↔ KeyIdsAgree c d)
    → (IsIssuedUnder r items x c name key × A) ↔ IsLink r items x y
link_iff r items x y c d name key A is_c is_d subject own agree =
    let outer = with_iff (λ e. IsCertificateWith (λ f. IsIssuedUnder r items x e (name_octets f.subject) (key_octets f.key) × KeyIdsAgree e f) y) x c is_c in
    let inner = with_iff (λ f. IsIssuedUnder r items x c (name_octets f.subject) (key_octets f.key) × KeyIdsAgree c f) y d is_d in (
      λ h. outer.1 (inner.1 (subst (λ n. IsIssuedUnder r items x c n (key_octets d.key)) subject (subst (λ k. IsIssuedUnder r items x c name k) own h.0), agree.0 h.1)),
      λ l. let i = inner.0 (outer.0 l) in (subst (λ k. IsIssuedUnder r items x c name k) (sym own) (subst (λ n. IsIssuedUnder r items x c n (key_octets d.key)) (sym subject) i.0), agree.1 i.1),
    )

pub anchor_iff : (r : JudgingContext) (items : List Item) (x y : Item) (c d : Certificate) (name key : List ℕ) (A : Type 0) → x.class ≡ certificate c → y.class ≡ certificate d → name ≡ name_octets d.subject → key ≡ key_octets d.key → A
    → (IsIssuedUnder r items x c name key × A) ↔ IsAnchorLink r items x y
anchor_iff r items x y c d name key A is_c is_d subject own a =
    let outer = with_iff (λ e. IsCertificateWith (λ f. IsIssuedUnder r items x e (name_octets f.subject) (key_octets f.key)) y) x c is_c in
    let inner = with_iff (λ f. IsIssuedUnder r items x c (name_octets f.subject) (key_octets f.key)) y d is_d in (
      λ h. outer.1 (inner.1 (subst (λ n. IsIssuedUnder r items x c n (key_octets d.key)) subject (subst (λ k. IsIssuedUnder r items x c name k) own h.0))),
      λ l. (subst (λ k. IsIssuedUnder r items x c name k) (sym own) (subst (λ n. IsIssuedUnder r items x c n (key_octets d.key)) (sym subject) (inner.0 (outer.0 l))), a),
    )

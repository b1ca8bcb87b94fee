-- The links of a certificate to those that were read, by the definitions.
use Rattle.std.proofs.Common.{◌≡◌, ◌∙◌, sym, subst, refl, ℕ, List, get_or}
use Rattle.cert_graph.specs.Entries.{IsAt}
use Rattle.cert_model.specs.Fields.{Certificate}
use Rattle.cert_model.specs.Octets.{name_octets, key_octets}
use Rattle.cert_judge.specs.declared.items.CertificateItem.{CertificateItem}
use Rattle.cert_judge.specs.Items.{certificate_of, certificate_item}
use Rattle.cert_judge.specs.ItemGraph.{IsCertificateWith, KeyIdsAgree, IsIssuedUnder, IsLink, IsAnchorLink}
use Rattle.cert_judge.specs.Revoking.{Item, JudgingContext}
use Rattle.cert_model.specs.Class.{certificate}
use Rattle.cert_judge.proofs.Grouping.{element, one_certificate}
use Rattle.cert_reasons.proofs.Marks.{there_at}
use Rattle.cert_reasons.proofs.OfLinks.{no_reason, not_unlinked}
use Rattle.certpath_why.specs.Why.{FailsTo, IsLinkedTo}
use Rattle.cert_reasons.specs.declared.links.Unlinked.{Unlinked}
use Rattle.cert_reasons.specs.Links.{HasLinkReason}
use Rattle.certpath_why.specs.Reached.{HasSubject}

-- whatever a reason is against has the issuer's name
pub fails_named : (r : JudgingContext) (items others : List Item) (x : Item) (c : Certificate) (name : List ℕ) (Agree : Certificate → Type 0) (reason : Unlinked) (w : ℕ) → name ≡ name_octets c.issuer
    → IsAt others w (IsCertificateWith (λ d. (name_octets d.subject ≡ name_octets c.issuer) × HasLinkReason r items x c (name_octets d.subject) (key_octets d.key) (Agree d) reason)) → HasSubject others name w
fails_named r items others x c name Agree reason w named h = (h.0, λ e. let p = h.1 e in (p.0, p.1, p.2.0 ∙ sym named))

-- and so has whatever it is linked to
pub linked_named : (r : JudgingContext) (items : List Item) (x : CertificateItem) (w : ℕ) → IsAt items w (IsLink r items (certificate_item x)) → HasSubject items x.issuer.now w
linked_named r items x w h = (
  h.0,
  λ e.
      let p = h.1 e in
      let q = p.2 in
      let same : certificate_of x ≡ p.0 = one_certificate (certificate_item x).class (certificate_of x) p.0 refl p.1 in
      (q.0, q.1, sym (x.issuer_is ∙ subst (λ (c : Certificate). name_octets c.issuer ≡ name_octets q.0.subject) (sym same) q.2.0.issuer)),
)

pub linked_anchor_named : (r : JudgingContext) (items anchors : List Item) (x : CertificateItem) (a : ℕ) → IsAt anchors a (IsAnchorLink r items (certificate_item x)) → HasSubject anchors x.issuer.now a
linked_anchor_named r items anchors x a h = (
  h.0,
  λ e.
      let p = h.1 e in
      let q = p.2 in
      let same : certificate_of x ≡ p.0 = one_certificate (certificate_item x).class (certificate_of x) p.0 refl p.1 in
      (q.0, q.1, sym (x.issuer_is ∙ subst (λ (c : Certificate). name_octets c.issuer ≡ name_octets q.0.subject) (sym same) q.2.issuer)),
)

-- ---- a link holds exactly if no reason is against it

pub none_against : (r : JudgingContext) (items : List Item) (x : Item) (c : Certificate) (w : ℕ) (reason : Unlinked) → x.class ≡ certificate c → IsLinkedTo r items x w → FailsTo r items x c reason w → ⊥
none_against r items x c w reason is l h =
    let e = element items w h.0 in
    let a = l.1 e.0 in
    let b = h.1 e.0 in
    let same : a.0 ≡ c = one_certificate x.class a.0 c a.1 is in
    let other : a.2.0 ≡ b.0 = one_certificate (get_or items w e.0).class a.2.0 b.0 a.2.1 b.1 in
    let first = subst (λ (k : Certificate). IsIssuedUnder r items x k (name_octets a.2.0.subject) (key_octets a.2.0.key) × KeyIdsAgree k a.2.0) same a.2.2 in
    let moved = subst (λ (d : Certificate). IsIssuedUnder r items x c (name_octets d.subject) (key_octets d.key) × KeyIdsAgree c d) other first in
    no_reason r items x c (name_octets b.0.subject) (key_octets b.0.key) (KeyIdsAgree c b.0) reason moved.0 moved.1 b.2.1

pub some_against : (r : JudgingContext) (items : List Item) (x : Item) (c : Certificate) (w : ℕ) → x.class ≡ certificate c → HasSubject items (name_octets c.issuer) w
    → ((reason : Unlinked) → FailsTo r items x c reason w → ⊥) → (IsLinkedTo r items x w → ⊥) → ⊥
some_against r items x c w is s none refuted =
    let e = element items w s.0 in
    let d = s.1 e.0 in
    let class : e.0.class ≡ certificate d.0 = subst (λ (y : Item). y.class ≡ certificate d.0) (sym e.1) d.1 in
    not_unlinked r items x c (name_octets d.0.subject) (key_octets d.0.key) (KeyIdsAgree c d.0) (sym d.2)
    (λ reason fact. none reason ((there_at items w e.0 s.0 e.1 (IsCertificateWith (λ f. (name_octets f.subject ≡ name_octets c.issuer) × HasLinkReason r items x c (name_octets f.subject) (key_octets f.key) (KeyIdsAgree c f) reason))).0 (d.0, class, (d.2, fact))))
    (λ issued same. refuted ((there_at items w e.0 s.0 e.1 (IsLink r items x)).0 (c, is, (d.0, class, (issued, same)))))

-- Links of one certificate, brought together by what is said of them.
use Rattle.std.specs.Prelude.{◌↔◌}
use Rattle.std.proofs.Common.{◌≡◌, ◌∙◌, ap, sym, subst, ℕ, ◌<◌, List, length, map, get_or, Some}
use Rattle.std.specs.List.{Contains}
use Rattle.cert_graph.specs.Entries.{IsAt}
use Rattle.cert_model.specs.Class.{certificate}
use Rattle.cert_model.specs.Fields.{Certificate}
use Rattle.cert_model.specs.Octets.{name_octets, key_octets}
use Rattle.cert_judge.specs.declared.items.CertificateItem.{CertificateItem}
use Rattle.cert_judge.specs.declared.items.ReadItem.{ReadItem}
use Rattle.cert_judge.specs.Items.{certificate_of, certificate_item, item_of}
use Rattle.cert_judge.specs.ItemGraph.{IsCertificateWith}
use Rattle.cert_judge.specs.Revoking.{Item}
use Rattle.cert_judge.proofs.Grouping.{element}
use Rattle.cert_judge.proofs.Linking.{with_iff}
use Rattle.cert_reasons.proofs.Marks.{there_at}
use Rattle.certpath_why.specs.declared.cuts.Cut.{Cut}
use Rattle.certpath_why.specs.declared.named.Issuers.{Issuers}
use Rattle.certpath_why.specs.Cuts.{IsCutOf}
use Rattle.certpath_why.specs.Named.{AreIssuers}
use Rattle.certpath_why.specs.Ranges.{IsInRanges}
use Rattle.certpath_why.specs.Reached.{ArePositions, HasSubject}
use Rattle.certpath_why.specs.Signers.{IsSignedBy}
use Rattle.certpath_why.proofs.Cutting.{cut_as}
use Rattle.certpath_why.proofs.Items.{held}

-- the item at a position, and the certificate that it is
pub cert_here : (items : List Item) (w : ℕ) (S : Certificate → Type 0) → IsAt items w (IsCertificateWith S) → (y : Item) × (d : Certificate) × (w < length items) × (y ≡ get_or items w y) × (y.class ≡ certificate d) × S d
cert_here items w S h =
    let e = element items w h.0 in
    let p = h.1 e.0 in
    (e.0, p.0, h.0, e.1, subst (λ (z : Item). z.class ≡ certificate p.0) (sym e.1) p.1, p.2)

pub cert_iff : (items : List Item) (w : ℕ) (y : Item) (d : Certificate) → w < length items → y ≡ get_or items w y → y.class ≡ certificate d → (P : Certificate → Type 0) → P d ↔ IsAt items w (IsCertificateWith P)
cert_iff items w y d lt at is P =
    let a = with_iff P y d is in
    let b = there_at items w y lt at (IsCertificateWith P) in
    (λ p. b.0 (a.1 p), λ h. a.0 (b.1 h))

-- ---- signers

-- whoever signed has the issuer's name
pub signed_named : (V : List ℕ → List ℕ → Type 0) (others : List Item) (x : CertificateItem) (w : ℕ) → IsSignedBy V others (certificate_item x) w → HasSubject others x.issuer.now w
signed_named V others x w s = (s.0, λ e. let p = s.1 e in (p.0, p.1, sym (x.issuer_is ∙ held p.2.0)))

-- whoever signed by less, signed by more
pub signed_less : (S V : List ℕ → List ℕ → Type 0) (others : List Item) (x : Item) (w : ℕ) → ((key item : List ℕ) → S key item → V key item) → IsSignedBy S others x w → IsSignedBy V others x w
signed_less S V others x w less s = (s.0, λ e. let p = s.1 e in (p.0, p.1, (p.2.0, less (key_octets p.0.key) x.octets p.2.1)))

-- those of the name that did not sign are those of which nobody says so
pub unvouched_iff : (V : List ℕ → List ℕ → Type 0) (others : List Item) (x : CertificateItem) (ws ss : List ℕ) → ArePositions (HasSubject others x.issuer.now) ws → ((w : ℕ) → Contains ss w ↔ IsSignedBy V others (certificate_item x) w)
    → (w : ℕ) → (Contains ws w × (Contains ss w → ⊥)) ↔ IsAt others w (IsCertificateWith (λ d. (name_octets d.subject ≡ name_octets (certificate_of x).issuer) × (V (key_octets d.key) x.octets.now → ⊥)))
unvouched_iff V others x ws ss named signed w =
    let S : Certificate → Type 0 = λ d. name_octets d.subject ≡ x.issuer.now in
    let F : Certificate → Type 0 = λ d. (name_octets d.subject ≡ name_octets (certificate_of x).issuer) × (V (key_octets d.key) x.octets.now → ⊥) in
    let G : Certificate → Type 0 = λ d. (Some (name_octets (certificate_of x).issuer) ≡ Some (name_octets d.subject)) × V (key_octets d.key) x.octets.now in (
      λ h.
          let z = cert_here others w S ((named.exact w).0 h.0) in
          let same = z.5 ∙ x.issuer_is in
          (cert_iff others w z.0 z.1 z.2 z.3 z.4 F).0 (same, λ v. h.1 ((signed w).1 ((cert_iff others w z.0 z.1 z.2 z.3 z.4 G).0 (ap Some (sym same), v)))),
      λ f.
          let z = cert_here others w F f in (
            (named.exact w).1 ((cert_iff others w z.0 z.1 z.2 z.3 z.4 S).0 (z.5.0 ∙ sym x.issuer_is)),
            λ c. z.5.1 ((cert_iff others w z.0 z.1 z.2 z.3 z.4 G).1 ((signed w).0 c)).1,
          ),
    )

-- the ranges of those of the name whose keys don't vouch
pub unvouched_cut : (V : List ℕ → List ℕ → Type 0) (read : List ReadItem) (x : CertificateItem) (issuers : Issuers) (ss : List ℕ) (cut : Cut) → AreIssuers read x.issuer.now issuers
    → ((w : ℕ) → Contains ss w ↔ IsSignedBy V (map item_of read) (certificate_item x) w) → IsCutOf (λ w. IsInRanges issuers.all.items w × (Contains ss w → ⊥)) cut
    → IsCutOf (λ w. IsAt (map item_of read) w (IsCertificateWith (λ d. (name_octets d.subject ≡ name_octets (certificate_of x).issuer) × (V (key_octets d.key) x.octets.now → ⊥)))) cut
unvouched_cut V read x issuers ss cut are signed h =
    let iff = unvouched_iff V (map item_of read) x issuers.places.items ss are.places signed in
    cut_as (λ w. IsInRanges issuers.all.items w × (Contains ss w → ⊥)) (λ w. IsAt (map item_of read) w (IsCertificateWith (λ d. (name_octets d.subject ≡ name_octets (certificate_of x).issuer) × (V (key_octets d.key) x.octets.now → ⊥)))) cut
    (λ w. (λ y. (iff w).0 ((are.all.exact w).0 y.0, y.1), λ a. let y = (iff w).1 a in ((are.all.exact w).1 y.0, y.1))) h

-- ---- key identifiers

-- of anchors no key identifier counts
pub none_differing_there : (anchors : List Item) (c : Certificate) (w : ℕ) → IsAt anchors w (IsCertificateWith (λ d. (name_octets d.subject ≡ name_octets c.issuer) × (Unit {0} → ⊥))) → ⊥
none_differing_there anchors c w h = let z = cert_here anchors w (λ d. (name_octets d.subject ≡ name_octets c.issuer) × (Unit {0} → ⊥)) h in z.5.1 tt

-- Lists that revoke a certificate, and whose keys vouch for them.
use Rattle.std.specs.Prelude.{◌↔◌}
use Rattle.std.proofs.Common.{Bool, ◌≡◌, ◌∙◌, refl, ap, sym, subst, ℕ, List, map, Some}
use Rattle.jiff_core.specs.declared.civil.datetime.DateTime.{DateTime}
use Rattle.cert_graph.specs.Entries.{IsAt}
use Rattle.cert_model.specs.Fields.{Certificate}
use Rattle.cert_model.specs.Octets.{name_octets, key_octets}
use Rattle.cert_judge.specs.declared.items.CertificateItem.{CertificateItem}
use Rattle.cert_judge.specs.declared.items.ListItem.{ListItem}
use Rattle.cert_judge.specs.declared.items.ReadItem.{ReadItem}
use Rattle.cert_judge.specs.declared.items.ReadItem.TheVariants.{Certificate as certificate_read, List as list_read, Other as other_read}
use Rattle.cert_judge.specs.Items.{item_of, certificate_of, certificate_item, rules_by, IsListWith}
use Rattle.cert_judge.specs.ItemGraph.{IsCertificateWith}
use Rattle.cert_judge.specs.Revoking.{Item}
use Rattle.cert_judge.specs.Vouching.{Vouching}
use Rattle.cert_judge.proofs.Grouping.{element}
use Rattle.cert_reasons.specs.declared.links.Unlinked.TheVariants.{RevokedBy}
use Rattle.cert_reasons.specs.Links.{HasLinkReason, Revokes}
use Rattle.cert_reasons.specs.Listed.{HasSerialAt, IsInForce, IsInForceAt, IsVouched, IsVouchedAt}
use Rattle.cert_reasons.proofs.Listing.{revokes_at}
use Rattle.cert_reasons.proofs.Marks.{there_at}
use Rattle.certpath_why.specs.Signers.{IsSignedBy}
use Rattle.certpath_why.proofs.Grouped.{cert_here, cert_iff}
use Rattle.certpath_why.proofs.Items.{held}

-- ---- the list at a position

list_in : (moment : DateTime) (name : List ℕ) (z : ReadItem) → IsListWith (IsInForce moment name) z → (l : ListItem) × (z ≡ list_read l) × (l.issuer.now ≡ name)
list_in moment name (certificate_read y) h = absurd h
list_in moment name (list_read l) h = (l, refl, h.issuer)
list_in moment name (other_read o) h = absurd h

pub list_there : (xs : List ReadItem) (moment : DateTime) (name : List ℕ) (p : ℕ) → IsInForceAt xs moment name p → (l : ListItem) × IsAt xs p (λ z. z ≡ list_read l) × (l.issuer.now ≡ name)
list_there xs moment name p h =
    let e = element xs p h.0 in
    let f = list_in moment name e.0 ((there_at xs p e.0 h.0 e.1 (IsListWith (IsInForce moment name))).1 h) in
    (f.0, (there_at xs p e.0 h.0 e.1 (λ z. z ≡ list_read f.0)).0 f.1, f.2)

pub vouched_there : (V : Vouching) (xs : List ReadItem) (p : ℕ) (l : ListItem) (key : List ℕ) → IsAt xs p (λ z. z ≡ list_read l) → V.Vouches key l.octets.now → IsVouchedAt V xs key p
vouched_there V xs p l key at v = (at.0, λ d. subst (IsListWith (IsVouched V key)) (sym (at.1 d)) v)

pub vouched_back : (V : Vouching) (xs : List ReadItem) (p : ℕ) (l : ListItem) (key : List ℕ) → IsAt xs p (λ z. z ≡ list_read l) → IsVouchedAt V xs key p → V.Vouches key l.octets.now
vouched_back V xs p l key at h = subst (IsListWith (IsVouched V key)) (at.1 (list_read l)) (h.1 (list_read l))

-- ---- whose keys vouch for it

-- a list revokes for those of the issuer's name whose keys vouch for it
pub signs_revoked : (V : Vouching) (moment : DateTime) (demand : Bool) (xs : List ReadItem) (others : List Item) (x : CertificateItem) (Agree : Certificate → Type 0) (p : ℕ) (l : ListItem)
    → IsInForceAt xs moment x.issuer.now p → HasSerialAt xs x.fields.serial.now p → IsAt xs p (λ z. z ≡ list_read l) → l.issuer.now ≡ x.issuer.now → (w : ℕ)
    → IsSignedBy V.Vouches others (item_of (list_read l)) w
    ↔ IsAt others w (IsCertificateWith (λ d. (name_octets d.subject ≡ name_octets (certificate_of x).issuer)
    × HasLinkReason (rules_by moment demand V) (map item_of xs) (certificate_item x) (certificate_of x) (name_octets d.subject) (key_octets d.key) (Agree d) (RevokedBy p)))
signs_revoked V moment demand xs others x Agree p l force serial at named w =
    let r = rules_by moment demand V in
    let items = map item_of xs in
    let c = certificate_of x in
    let S : Certificate → Type 0 = λ d. (Some l.issuer.now ≡ Some (name_octets d.subject)) × V.Vouches (key_octets d.key) l.octets.now in
    let T : Certificate → Type 0 = λ d. (name_octets d.subject ≡ name_octets c.issuer) × IsAt items p (Revokes r (name_octets d.subject) (key_octets d.key) c.serial) in
    let to : IsSignedBy V.Vouches others (item_of (list_read l)) w → IsAt others w (IsCertificateWith S) = λ s. (s.0, λ e. let q = s.1 e in (q.0, q.1, (ap Some l.issuer_is ∙ q.2.0, q.2.1))) in
    let from : IsAt others w (IsCertificateWith S) → IsSignedBy V.Vouches others (item_of (list_read l)) w = λ s. (s.0, λ e. let q = s.1 e in (q.0, q.1, (ap Some (sym l.issuer_is) ∙ q.2.0, q.2.1))) in (
      λ s.
          let z = cert_here others w S (to s) in
          let subject : x.issuer.now ≡ name_octets z.1.subject = sym named ∙ held z.5.0 in
          let revokes = (revokes_at V moment demand x.issuer.now (key_octets z.1.key) xs x.fields.serial.now p).0 ((force, serial), vouched_there V xs p l (key_octets z.1.key) at z.5.1) in
          (cert_iff others w z.0 z.1 z.2 z.3 z.4 T).0 (sym subject ∙ x.issuer_is, subst (λ n. IsAt items p (Revokes r n (key_octets z.1.key) c.serial)) subject revokes),
      λ t.
          let z = cert_here others w T t in
          let subject : x.issuer.now ≡ name_octets z.1.subject = x.issuer_is ∙ sym z.5.0 in
          let revokes = subst (λ n. IsAt items p (Revokes r n (key_octets z.1.key) c.serial)) (sym subject) z.5.1 in
          let v = (revokes_at V moment demand x.issuer.now (key_octets z.1.key) xs x.fields.serial.now p).1 revokes in
          from ((cert_iff others w z.0 z.1 z.2 z.3 z.4 S).0 (ap Some (named ∙ subject), vouched_back V xs p l (key_octets z.1.key) at v.1)),
    )

-- a list that revokes for someone is in force, and has the serial number
pub revoked_listed : (V : Vouching) (moment : DateTime) (demand : Bool) (xs : List ReadItem) (others : List Item) (x : CertificateItem) (Agree : Certificate → Type 0) (p w : ℕ)
    → IsAt others w (IsCertificateWith (λ d. (name_octets d.subject ≡ name_octets (certificate_of x).issuer)
    × HasLinkReason (rules_by moment demand V) (map item_of xs) (certificate_item x) (certificate_of x) (name_octets d.subject) (key_octets d.key) (Agree d) (RevokedBy p)))
    → IsInForceAt xs moment x.issuer.now p × HasSerialAt xs x.fields.serial.now p
revoked_listed V moment demand xs others x Agree p w t =
    let r = rules_by moment demand V in
    let items = map item_of xs in
    let c = certificate_of x in
    let T : Certificate → Type 0 = λ d. (name_octets d.subject ≡ name_octets c.issuer) × IsAt items p (Revokes r (name_octets d.subject) (key_octets d.key) c.serial) in
    let z = cert_here others w T t in
    let subject : x.issuer.now ≡ name_octets z.1.subject = x.issuer_is ∙ sym z.5.0 in
    let revokes = subst (λ n. IsAt items p (Revokes r n (key_octets z.1.key) c.serial)) (sym subject) z.5.1 in
    ((revokes_at V moment demand x.issuer.now (key_octets z.1.key) xs x.fields.serial.now p).1 revokes).0

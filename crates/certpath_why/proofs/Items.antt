-- Items as they were read are the items of the definitions.
use Rattle.std.specs.Prelude.{◌↔◌, slice_get}
use Rattle.std.proofs.Common.{◌≡◌, ◌∙◌, ap, sym, subst, refl, ℕ, ◌<◌, List, [], map, length, get_or, arith, Some, None, option_map, inl, inr}
use Rattle.std.specs.List.{Contains}
use Rattle.std.proofs.lemmas.Bool.{cases_lt}
use Rattle.std.proofs.lemmas.List.{length-map, get_or_default, get_or-map}
use Rattle.std.proofs.lemmas.Option.{slice_get-map, slice_get-get_or, slice_get_past}
use Rattle.cert_graph.specs.Entries.{IsAt}
use Rattle.cert_graph.specs.declared.places.Part.TheVariants.{Name}
use Rattle.cert_graph.specs.Places.{shown_at, Shows}
use Rattle.cert_model.specs.Fields.{Certificate, RevocationList}
use Rattle.cert_model.specs.Octets.{name_octets}
use Rattle.cert_model.specs.Class.{certificate, list, other}
use Rattle.cert_judge.specs.declared.items.CertificateItem.{CertificateItem}
use Rattle.cert_judge.specs.declared.items.ReadItem.{ReadItem}
use Rattle.cert_judge.specs.declared.items.ReadItem.TheVariants.{Certificate as certificate_read, List as list_read, Other as other_read}
use Rattle.cert_judge.specs.Items.{item_of, certificate_of, certificate_item, IsListWith}
use Rattle.cert_judge.specs.ItemGraph.{IsCertificateWith}
use Rattle.cert_judge.specs.Revoking.{Item}
use Rattle.cert_judge.proofs.Grouping.{element}
use Rattle.cert_judge.proofs.Linking.{with_iff}
use Rattle.cert_reasons.specs.Listed.{IsOf}
use Rattle.cert_reasons.proofs.Certain.{viewed_by}
use Rattle.cert_reasons.proofs.Marks.{there_at}
use Rattle.certpath_why.specs.Found.{subject_place, list_place, IsCertificateRead}
use Rattle.certpath_why.specs.Why.{octets_at}
use Rattle.certpath_why.specs.Reached.{HasSubject, IsCertificateAt, IsIssuerByName, ArePositions}

-- what is so of an item that was read is so of the item at its position
pub at_item : (P : Item → Type 0) (items : List ReadItem) (v : ℕ) (z : ReadItem) → IsAt items v (λ x. x ≡ z) → P (item_of z) ↔ IsAt (map item_of items) v P
at_item P items v z h =
    let e = element items v h.0 in
    let is : e.0 ≡ z = e.1 ∙ h.1 e.0 in
    subst (λ x. P (item_of x) ↔ IsAt (map item_of items) v P) is (viewed_by item_of items v e.0 h.0 e.1 P)

-- what is so of a certificate that was read is so of the item at its position
pub at_read : (P : Item → Type 0) (items : List ReadItem) (v : ℕ) (c : CertificateItem) → IsAt items v (λ x. x ≡ certificate_read c) → P (certificate_item c) ↔ IsAt (map item_of items) v P
at_read P items v c h = at_item P items v (certificate_read c) h

pub with_read : (P : Certificate → Type 0) (items : List ReadItem) (v : ℕ) (c : CertificateItem) → IsAt items v (λ x. x ≡ certificate_read c) → P (certificate_of c) ↔ IsAt (map item_of items) v (IsCertificateWith P)
with_read P items v c h =
    let one = with_iff P (certificate_item c) (certificate_of c) refl in
    let two = at_read (IsCertificateWith P) items v c h in
    (λ p. two.0 (one.1 p), λ a. one.0 (two.1 a))

pub no_list : {l : RevocationList} {c : Certificate} → list l ≡ certificate c → ⊥
no_list e = cc

pub no_other : {c : Certificate} → other ≡ certificate c → ⊥
no_other e = cc

is_read : (x : ReadItem) → IsCertificateWith (λ c. Unit {0}) (item_of x) → IsCertificateRead x
is_read (certificate_read c) h = tt
is_read (list_read l) h = absurd (no_list h.1)
is_read (other_read o) h = absurd (no_other h.1)

-- if no certificate was read there is none
pub none_read : (items : List ReadItem) (v : ℕ) → (IsAt items v IsCertificateRead → ⊥) → IsCertificateAt (map item_of items) v → ⊥
none_read items v never h =
    let long = length-map items item_of in
    let lt : v < length items = let below = h.0 in omega arith in
    let e = element items v lt in
    let there = (viewed_by item_of items v e.0 lt e.1 (IsCertificateWith (λ c. Unit {0}))).1 h in
    never (lt, λ d. subst IsCertificateRead (e.1 ∙ get_or_default items v e.0 d lt) (is_read e.0 there))

-- ---- places by subjects

pub held : {a b : List ℕ} → Some a ≡ Some b → a ≡ b
held e = cc

pub empty : {a : List ℕ} → None ≡ Some a → ⊥
empty e = cc

one_shows : (x : ReadItem) (q : List ℕ) → (shown_at Name (Some (subject_place x)) ≡ Some q) ↔ IsCertificateWith (λ d. name_octets d.subject ≡ q) (item_of x)
one_shows (certificate_read c) q =
    let with = with_iff (λ d. name_octets d.subject ≡ q) (certificate_item c) (certificate_of c) refl in
    (λ e. with.1 (sym c.subject_is ∙ held e), λ h. ap Some (c.subject_is ∙ with.0 h))
one_shows (list_read l) q = (λ e. absurd (empty e), λ h. absurd (no_list h.1))
one_shows (other_read o) q = (λ e. absurd (empty e), λ h. absurd (no_other h.1))

pub shows_subject : (items : List ReadItem) (q : List ℕ) (w : ℕ) → Shows Name (map subject_place items) w q ↔ HasSubject (map item_of items) q w
shows_subject items q w = elim (cases_lt w (length items)) [
  | inl lt ↦
      let e = element items w lt in
      let is : slice_get (map subject_place items) w ≡ Some (subject_place e.0) = slice_get-map subject_place items w ∙ ap (λ o. option_map subject_place o) (slice_get-get_or items w e.0 lt ∙ ap Some (sym e.1)) in
      let one = one_shows e.0 q in
      let there = viewed_by item_of items w e.0 lt e.1 (IsCertificateWith (λ d. name_octets d.subject ≡ q)) in (
        λ s. there.0 (one.0 (ap (shown_at Name) (sym is) ∙ s)),
        λ h. ap (shown_at Name) is ∙ one.1 (there.1 h),
      )
  | inr past ↦
      let long = length-map items item_of in
      let longer = length-map items subject_place in (
        λ s. absurd (empty (sym (ap (shown_at Name) (slice_get_past (map subject_place items) w (omega arith))) ∙ s)),
        λ h. let below = h.0 in absurd (omega arith),
      )
]

list_shows : (x : ReadItem) (q : List ℕ) → (shown_at Name (Some (list_place x)) ≡ Some q) ↔ IsListWith (IsOf q) x
list_shows (certificate_read c) q = (λ e. absurd (empty e), λ h. absurd h)
list_shows (list_read l) q = (λ e. held e, λ h. ap Some h)
list_shows (other_read o) q = (λ e. absurd (empty e), λ h. absurd h)

pub shows_list : (items : List ReadItem) (q : List ℕ) (w : ℕ) → Shows Name (map list_place items) w q ↔ IsAt items w (IsListWith (IsOf q))
shows_list items q w = elim (cases_lt w (length items)) [
  | inl lt ↦
      let e = element items w lt in
      let is : slice_get (map list_place items) w ≡ Some (list_place e.0) = slice_get-map list_place items w ∙ ap (λ o. option_map list_place o) (slice_get-get_or items w e.0 lt ∙ ap Some (sym e.1)) in
      let one = list_shows e.0 q in
      let there = there_at items w e.0 lt e.1 (IsListWith (IsOf q)) in (
        λ s. there.0 (one.0 (ap (shown_at Name) (sym is) ∙ s)),
        λ h. ap (shown_at Name) is ∙ one.1 (there.1 h),
      )
  | inr past ↦
      let longer = length-map items list_place in (
        λ s. absurd (empty (sym (ap (shown_at Name) (slice_get_past (map list_place items) w (omega arith))) ∙ s)),
        λ h. let below = h.0 in absurd (omega arith),
      )
]

pub positions_as : {P Q : ℕ → Type 0} (ps : List ℕ) → ((v : ℕ) → P v ↔ Q v) → ArePositions P ps → ArePositions Q ps
positions_as ps iff h = record {
  ascends = h.ascends;
  exact = λ v. (λ c. (iff v).0 ((h.exact v).0 c), λ q. (h.exact v).1 ((iff v).1 q));
}

-- a certificate of a subject is one
pub subject_certificate : (items : List Item) (name : List ℕ) (w : ℕ) → HasSubject items name w → IsCertificateAt items w
subject_certificate items name w h = (h.0, λ d. let x = h.1 d in (x.0, x.1, tt))

-- a certificate that was read has the subject
pub read_subject : (items : List ReadItem) (v : ℕ) (x : CertificateItem) (name : List ℕ) → IsAt items v (λ y. y ≡ certificate_read x) → HasSubject (map item_of items) name v → name ≡ x.subject.now
read_subject items v x name at h = sym (x.subject_is ∙ (with_read (λ d. name_octets d.subject ≡ name) items v x at).1 h)

-- ---- issuers by name

pub no_issuer_of : (items : List Item) (v : ℕ) → (IsCertificateAt items v → ⊥) → (w : ℕ) → Contains [] w ↔ IsIssuerByName items v w
no_issuer_of items v never w = (λ c. absurd (omega (arith, c.1)), λ h. absurd (never (h.0, λ d. let x = h.1 d in (x.0, x.1, tt))))

pub issuer_iff : (read : List ReadItem) (v : ℕ) (x : CertificateItem) (ws : List ℕ) → IsAt read v (λ y. y ≡ certificate_read x) → ArePositions (HasSubject (map item_of read) x.issuer.now) ws
    → (w : ℕ) → Contains ws w ↔ IsIssuerByName (map item_of read) v w
issuer_iff read v x ws at h w =
    let items = map item_of read in
    let with = with_read (λ c. HasSubject items (name_octets c.issuer) w) read v x at in (
      λ c. with.0 (subst (λ n. HasSubject items n w) x.issuer_is ((h.exact w).0 c)),
      λ i. (h.exact w).1 (subst (λ n. HasSubject items n w) (sym x.issuer_is) (with.1 i)),
    )

-- the octets of the item at a position
pub octets_read : (items : List ReadItem) (k : ℕ) (x : ReadItem) → k < length items → x ≡ get_or items k x → (item_of x).octets ≡ octets_at (map item_of items) k
octets_read items k x lt at =
    let long : k < length (map item_of items) = let same = length-map items item_of in omega arith in
    sym (get_or-map (λ (y : Item). y.octets) (map item_of items) k (item_of x) [] long ∙ ap (λ (y : Item). y.octets) (get_or-map item_of items k x (item_of x) lt ∙ ap item_of (sym at)))

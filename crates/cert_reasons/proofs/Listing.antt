-- Lists that are in force and revoke, against the definitions of links.
use Rattle.std.specs.Prelude.{◌↔◌, IsTrue}
use Rattle.std.proofs.Common.{◌≡◌, sym, subst, refl, ℕ, ◌<◌, Bool, true, false, List, map, length, arith, get_or}
use Rattle.std.specs.List.{Any, Contains}
use Rattle.std.proofs.lemmas.List.{length-map}
use Rattle.jiff_core.specs.declared.civil.datetime.DateTime.{DateTime}
use Rattle.cert_graph.specs.Entries.{IsAt}
use Rattle.cert_graph.proofs.Sifted.{Sifted, sifted_whole}
use Rattle.cert_model.specs.Fields.{Certificate, Entry, RevocationList}
use Rattle.cert_judge.specs.declared.items.ListItem.{ListItem}
use Rattle.cert_judge.specs.declared.items.ReadItem.{ReadItem}
use Rattle.cert_judge.specs.declared.items.ReadItem.TheVariants.{Certificate as certificate_read, List as list_read, Other as other_read}
use Rattle.cert_judge.specs.Items.{list_of, item_of, rules_by, IsUsed, IsListWith}
use Rattle.cert_judge.specs.Revoking.{Item, HasUsedList}
use Rattle.cert_judge.specs.Vouching.{Vouching}
use Rattle.cert_judge.proofs.Grouping.{element}
use Rattle.cert_judge.proofs.UsedLists.{used_to, used_from, has_iff}
use Rattle.cert_reasons.specs.declared.links.Findings.{Findings}
use Rattle.cert_reasons.specs.declared.links.Unlinked.{Unlinked}
use Rattle.cert_reasons.specs.declared.links.Unlinked.TheVariants.{NotVouched, KeyIdsDiffer, RevokedBy, NoUsedList}
use Rattle.cert_reasons.specs.declared.listed.Listed.{Listed}
use Rattle.cert_reasons.specs.Listed.{ArePlaces, IsOf, IsInForce, HasSerial, IsVouched, IsInForceAt, HasSerialAt, IsVouchedAt, AreListed}
use Rattle.cert_reasons.specs.Found.{HasFoundReason}
use Rattle.cert_reasons.specs.Links.{Revokes, HasLinkReason}
use Rattle.cert_reasons.proofs.Certain.{viewed_by}
use Rattle.cert_reasons.proofs.Marks.{there_at}

-- a property of lists that another one implies
list_as : (P Q : ListItem → Type 0) (x : ReadItem) → ((l : ListItem) → P l → Q l) → IsListWith P x → IsListWith Q x
list_as P Q (certificate_read y) f h = h
list_as P Q (list_read y) f h = f y h
list_as P Q (other_read y) f h = h

list_at : (P Q : ListItem → Type 0) (xs : List ReadItem) (p : ℕ) → ((l : ListItem) → P l → Q l) → IsAt xs p (IsListWith P) → IsAt xs p (IsListWith Q)
list_at P Q xs p f h = (h.0, λ d. list_as P Q (get_or xs p d) f (h.1 d))

-- ---- places

pub sifted_places : (C : ℕ → Type 0) (ps : List ℕ) (k : ℕ) (out : List ℕ) → k ≡ length ps → Sifted 0 C ps k out → ArePlaces (λ p. Contains ps p × C p) out
sifted_places C ps k out end h = record { ascends = h.ascends; exact = sifted_whole C ps k out end h }

-- of places that have a property, those with another
pub among_places : (P Q : ℕ → Type 0) (ps qs : List ℕ) → ArePlaces P ps → ArePlaces (λ p. Contains ps p × Q p) qs → ArePlaces (λ p. P p × Q p) qs
among_places P Q ps qs h g = record {
  ascends = g.ascends;
  exact = λ p. (λ c. let b = (g.exact p).0 c in ((h.exact p).0 b.0, b.1), λ b. (g.exact p).1 ((h.exact p).1 b.0, b.1));
}

-- if all lists of an issuer are among the places, all that are in force are found
pub in_force_places : (xs : List ReadItem) (moment : DateTime) (name : List ℕ) (places : List ℕ) (k : ℕ) (out : List ℕ) → k ≡ length places → Sifted 0 (IsInForceAt xs moment name) places k out
    → ((p : ℕ) → IsAt xs p (IsListWith (IsOf name)) → Contains places p) → ArePlaces (IsInForceAt xs moment name) out
in_force_places xs moment name places k out end h complete = record {
  ascends = h.ascends;
  exact = λ p. let w = sifted_whole (IsInForceAt xs moment name) places k out end h p in (
    λ c. (w.0 c).1,
    λ i. w.1 (complete p (list_at (IsInForce moment name) (IsOf name) xs p (λ l f. f.issuer) i), i),
  );
}

-- ---- used lists

module _ (V : Vouching) (moment : DateTime) (demand : Bool) (name key : List ℕ) where
  -- a list that is in force and that a key vouches for is used
  used_item : (x : ReadItem) → (IsListWith (IsInForce moment name) x × IsListWith (IsVouched V key) x) ↔ IsListWith (IsUsed V moment name key) x
  used_item (certificate_read y) = (λ h. h.0, λ h. (h, h))
  used_item (list_read y) = (
    λ h. record { issuer = h.0.issuer; vouched = h.1; current = h.0.current; plain = h.0.plain },
    λ u. (record { issuer = u.issuer; current = u.current; plain = u.plain }, u.vouched),
  )
  used_item (other_read y) = (λ h. h.0, λ h. (h, h))

  -- a list that is used and has a serial number, as the code has it and as the definitions have it
  revokes_item : (serial : List ℕ) (x : ReadItem) → (IsListWith (IsUsed V moment name key) x × IsListWith (HasSerial serial) x) ↔ Revokes (rules_by moment demand V) name key serial (item_of x)
  revokes_item serial (certificate_read y) = (λ h. absurd h.0, λ h. absurd (used_from V moment demand name key (certificate_read y) (item_of (certificate_read y)) h.0 refl h.1))
  revokes_item serial (list_read y) = (
    λ h. (list_of y, used_to V moment demand name key y h.0, h.1),
    λ h. let u = used_from V moment demand name key (list_read y) (item_of (list_read y)) h.0 refl h.1 in (u.0, subst (λ (l : RevocationList). Any (λ (n : Entry). n.serial ≡ serial) l.entries) u.1 h.2),
  )
  revokes_item serial (other_read y) = (λ h. absurd h.0, λ h. absurd (used_from V moment demand name key (other_read y) (item_of (other_read y)) h.0 refl h.1))

  -- what the code looks at for an entry of a used list is what the definitions say
  pub revokes_at : (xs : List ReadItem) (serial : List ℕ) (p : ℕ) → ((IsInForceAt xs moment name p × HasSerialAt xs serial p) × IsVouchedAt V xs key p) ↔ IsAt (map item_of xs) p (Revokes (rules_by moment demand V) name key serial)
  revokes_at xs serial p = (
    λ r.
        let lt : p < length xs = r.0.0.0 in
        let x = element xs p lt in
        let f = (there_at xs p x.0 lt x.1 (IsListWith (IsInForce moment name))).1 r.0.0 in
        let s = (there_at xs p x.0 lt x.1 (IsListWith (HasSerial serial))).1 r.0.1 in
        let t = (there_at xs p x.0 lt x.1 (IsListWith (IsVouched V key))).1 r.1 in
        (viewed_by item_of xs p x.0 lt x.1 (Revokes (rules_by moment demand V) name key serial)).0 ((revokes_item serial x.0).0 ((used_item x.0).0 (f, t), s)),
    λ r.
        let long = length-map xs item_of in
        let there = r.0 in
        let lt : p < length xs = omega arith in
        let x = element xs p lt in
        let u = (revokes_item serial x.0).1 ((viewed_by item_of xs p x.0 lt x.1 (Revokes (rules_by moment demand V) name key serial)).1 r) in
        let f = (used_item x.0).1 u.0 in (
          ((there_at xs p x.0 lt x.1 (IsListWith (IsInForce moment name))).0 f.0, (there_at xs p x.0 lt x.1 (IsListWith (HasSerial serial))).0 u.1),
          (there_at xs p x.0 lt x.1 (IsListWith (IsVouched V key))).0 f.1,
        ),
  )

  -- a key vouches for one of the lists in force exactly if a list is used
  pub used_iff : (xs : List ReadItem) (lists : List ℕ) → ArePlaces (IsInForceAt xs moment name) lists → Any (IsVouchedAt V xs key) lists ↔ HasUsedList (rules_by moment demand V) (map item_of xs) name key
  used_iff xs lists h =
      let u = has_iff V moment demand name key xs in (
        λ a.
            let f = (h.exact a.1).0 (a.0, a.2, a.3) in
            let lt : a.1 < length xs = f.0 in
            let x = element xs a.1 lt in
            let i = (there_at xs a.1 x.0 lt x.1 (IsListWith (IsInForce moment name))).1 f in
            let t = (there_at xs a.1 x.0 lt x.1 (IsListWith (IsVouched V key))).1 a.4 in
            u.0 (a.1, x.0, lt, sym x.1, (used_item x.0).0 (i, t)),
        λ b.
            let a = u.1 b in
            let i = (used_item a.1).1 a.4 in
            let c = (h.exact a.0).1 ((there_at xs a.0 a.1 a.2 (sym a.3) (IsListWith (IsInForce moment name))).0 i.0) in
            (c.0, a.0, c.1, c.2, (there_at xs a.0 a.1 a.2 (sym a.3) (IsListWith (IsVouched V key))).0 i.1),
      )

  -- each reason that was found is one of the link
  pub found_iff : (f : Findings) (xs : List ReadItem) (l : Listed) (x : Item) (c : Certificate) → AreListed xs moment name c.serial l → (IsTrue f.vouched ↔ V.Vouches key x.octets)
      → ArePlaces (λ p. Contains l.revoking.items p × IsVouchedAt V xs key p) f.revoking.now
      → (IsTrue f.lacking ↔ ((demand ≡ true) × (HasUsedList (rules_by moment demand V) (map item_of xs) name key → ⊥)))
      → (reason : Unlinked) → HasFoundReason f reason ↔ HasLinkReason (rules_by moment demand V) (map item_of xs) x c name key (IsTrue f.agree) reason
  found_iff f xs l x c listed vouched revoking lacking NotVouched = (λ n v. n (vouched.1 v), λ n v. n (vouched.0 v))
  found_iff f xs l x c listed vouched revoking lacking KeyIdsDiffer = (λ n. n, λ n. n)
  found_iff f xs l x c listed vouched revoking lacking (RevokedBy p) =
      let all = among_places (λ p. IsInForceAt xs moment name p × HasSerialAt xs c.serial p) (IsVouchedAt V xs key) l.revoking.items f.revoking.now listed.revoking revoking in
      let r = revokes_at xs c.serial p in
      (λ h. r.0 ((all.exact p).0 h), λ h. (all.exact p).1 (r.1 h))
  found_iff f xs l x c listed vouched revoking lacking NoUsedList = lacking

-- ---- what is lacking

pub lacking_iff : (b : Bool) (D A B : Type 0) → (A ↔ B) → (IsTrue b → D × (A → ⊥)) → (b ≡ false → D → A) → IsTrue b ↔ (D × (B → ⊥))
lacking_iff true D A B i lacks has = (λ t. let h = lacks t in (h.0, λ x. h.1 (i.1 x)), λ h. refl)
lacking_iff false D A B i lacks has = (λ t. let h = lacks t in (h.0, λ x. h.1 (i.1 x)), λ h. absurd (h.1 (i.0 (has refl h.0))))

-- what is demanded and isn't lacking is there
pub there_demanded : (b : Bool) (D A B : Type 0) → (A ↔ B) → (IsTrue b → D × (A → ⊥)) → (b ≡ false → D → A) → ((D × (B → ⊥)) → ⊥) → D → B
there_demanded true D A B i lacks has none d = let h = lacks refl in absurd (none (d, λ x. h.1 (i.1 x)))
there_demanded false D A B i lacks has none d = i.0 (has refl d)

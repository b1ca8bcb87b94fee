-- Rows of the entries of lists, one after the other.
use Rattle.std.specs.Prelude.{◌↔◌, ◌⊎◌, IsTrue}
use Rattle.std.proofs.Common.{◌≡◌, refl, subst, ℕ, ◌+◌, ◌<◌, ◌≤◌, List, length, arith, get_or, inl, inr, Bor}
use Rattle.std.specs.List.{Any, Contains, list_any}
use Rattle.std.specs.List.Sorted.{IsStrictlyIncreasing}
use Rattle.std.specs.BTreeMap.{is_at}
use Rattle.std.specs.BTreeSet as sorted
use Rattle.std.specs.BTreeSet.{BTreeSet}
use Rattle.std.proofs.lemmas.Bool.{false≢true}
use Rattle.cert_judge.proofs.Before.{SomeBefore, none_before, before_more, before_all}
use Rattle.cert_judge.specs.declared.items.ListItem.{ListItem}
use Rattle.cert_judge.specs.declared.items.ReadItem.{ReadItem}
use Rattle.cert_judge.specs.declared.items.ReadItem.TheVariants.{Certificate as certificate_read, List as list_read, Other as other_read}
use Rattle.cert_judge.specs.Items.{IsListWith}
use Rattle.jiff_core.specs.declared.civil.datetime.DateTime.{DateTime}
use Rattle.cert_reasons.specs.Listed.{ArePlaces, IsInForceAt, HasSerialAt}
use Rattle.cert_reasons.specs.Rows.{HasRow, row_cmp}
use Rattle.cert_reasons.specs.InForce.{AreListsInForce}
use Rattle.cert_reasons.specs.declared.in_force.ListsInForce.{ListsInForce}
use Rattle.cert_reasons.proofs.Rowed.{word}

pub no_rows : (rows : BTreeSet (Bor (List ℕ) × ℕ)) (s : List ℕ) (p : ℕ) → sorted.IsEmpty rows → HasRow rows s p → ⊥
no_rows rows s p empty h = false≢true (subst (λ (ks : List (Bor (List ℕ) × ℕ)). IsTrue (list_any (is_at (row_cmp (word s, p))) ks)) empty h)

-- ---- the entries of one list

pub entries_none : {X : Type 0} (P : X → Type 0) (xs : List X) (A E : Type 0) → A ↔ (A ⊎ (SomeBefore P xs 0 × E))
entries_none P xs A E = (λ a. inl a, λ h. elim h [ inl a ↦ a | inr y ↦ absurd (none_before P xs y.0) ])

pub entries_more : {X : Type 0} (P : X → Type 0) (xs : List X) (k : ℕ) (x : X) (A B C E : Type 0) → k < length xs → x ≡ get_or xs k x
    → (B ↔ (A ⊎ (SomeBefore P xs k × E))) → (C ↔ (B ⊎ (P x × E))) → C ↔ (A ⊎ (SomeBefore P xs (k + 1) × E))
entries_more P xs k x A B C E lt at was is =
    let m = before_more P xs k x lt at in (
      λ h. elim (is.0 h) [
        | inl b ↦ elim (was.0 b) [ inl a ↦ inl a | inr y ↦ inr (m.1 (inl y.0), y.1) ]
        | inr y ↦ inr (m.1 (inr y.0), y.1)
      ],
      λ h. is.1 (elim h [
        | inl a ↦ inl (was.1 (inl a))
        | inr y ↦ elim (m.0 y.0) [ inl old ↦ inl (was.1 (inr (old, y.1))) | inr new ↦ inr (new, y.1) ]
      ]),
    )

pub entries_all : {X : Type 0} (P : X → Type 0) (xs : List X) (k : ℕ) (A B E F : Type 0) → k ≡ length xs → (Any P xs ↔ F) → (B ↔ (A ⊎ (SomeBefore P xs k × E))) → B ↔ (A ⊎ (F × E))
entries_all P xs k A B E F end same h =
    let b = before_all P xs k end in (
      λ x. elim (h.0 x) [ inl a ↦ inl a | inr y ↦ inr (same.0 (b.0 y.0), y.1) ],
      λ x. h.1 (elim x [ inl a ↦ inl a | inr y ↦ inr (b.1 (same.1 y.0), y.1) ]),
    )

-- ---- what is no list, or not there

pub none_added : (A F E : Type 0) → (F → ⊥) → A ↔ (A ⊎ (F × E))
none_added A F E none = (λ a. inl a, λ h. elim h [ inl a ↦ a | inr y ↦ absurd (none y.0) ])

pub no_list : (P : ListItem → Type 0) (x : ReadItem) → ((l : ListItem) → x ≡ list_read l → ⊥) → IsListWith P x → ⊥
no_list P (certificate_read y) none h = h
no_list P (list_read y) none h = none y refl
no_list P (other_read y) none h = h

pub added_as : (A B E F G : Type 0) → (F ↔ G) → (B ↔ (A ⊎ (F × E))) → B ↔ (A ⊎ (G × E))
added_as A B E F G same h = (
  λ x. elim (h.0 x) [ inl a ↦ inl a | inr y ↦ inr (same.0 y.0, y.1) ],
  λ x. h.1 (elim x [ inl a ↦ inl a | inr y ↦ inr (same.1 y.0, y.1) ]),
)

-- ---- the lists at some places

-- a list with a serial number is at one of the first places
abbrev pub HasSerialBefore : List ReadItem → List ℕ → ℕ → List ℕ → ℕ → Type 0
HasSerialBefore xs s p places k = SomeBefore (λ v. HasSerialAt xs s v × (v ≡ p)) places k

pub lists_none : (xs : List ReadItem) (s : List ℕ) (p : ℕ) (places : List ℕ) (A : Type 0) → (A → ⊥) → A ↔ HasSerialBefore xs s p places 0
lists_none xs s p places A none = (λ a. absurd (none a), λ h. absurd (none_before _ places h))

pub lists_more : (xs : List ReadItem) (s : List ℕ) (p : ℕ) (places : List ℕ) (k v : ℕ) (A B : Type 0) → k < length places → v ≡ get_or places k v
    → (A ↔ HasSerialBefore xs s p places k) → (B ↔ (A ⊎ (HasSerialAt xs s v × (v ≡ p)))) → B ↔ HasSerialBefore xs s p places (k + 1)
lists_more xs s p places k v A B lt at was is =
    let m = before_more (λ (v : ℕ). HasSerialAt xs s v × (v ≡ p)) places k v lt at in (
      λ h. m.1 (elim (is.0 h) [ inl a ↦ inl (was.0 a) | inr y ↦ inr y ]),
      λ h. is.1 (elim (m.0 h) [ inl a ↦ inl (was.1 a) | inr y ↦ inr y ]),
    )

pub lists_all : (xs : List ReadItem) (s : List ℕ) (p : ℕ) (places : List ℕ) (k : ℕ) (A : Type 0) → k ≡ length places → (A ↔ HasSerialBefore xs s p places k) → A ↔ (Contains places p × HasSerialAt xs s p)
lists_all xs s p places k A end h =
    let b = before_all (λ (v : ℕ). HasSerialAt xs s v × (v ≡ p)) places k end in (
      λ a.
          let y = b.0 (h.0 a) in
          let e : y.1 ≡ p = y.4.1 in
          ((y.0, y.2, subst (λ (z : ℕ). get_or places y.0 z ≡ z) e y.3), subst (HasSerialAt xs s) e y.4.0),
      λ x. h.1 (b.1 (x.0.0, p, x.0.1, x.0.2, (x.1, refl))),
    )

-- ---- a look-up

-- the places in the rows of a serial number are those of the lists in force that have it
pub revoking_places : (xs : List ReadItem) (moment : DateTime) (name serial : List ℕ) (l : ListsInForce) (most : ℕ) (found : List ℕ) → length xs ≤ most → AreListsInForce xs moment name l → IsStrictlyIncreasing found
    → ((p : ℕ) → Contains found p → HasRow l.rows serial p) → ((p : ℕ) → p ≤ most → HasRow l.rows serial p → Contains found p) → ArePlaces (λ p. IsInForceAt xs moment name p × HasSerialAt xs serial p) found
revoking_places xs moment name serial l most found long h ascends sound complete = record {
  ascends = ascends;
  exact = λ p. (
    λ c. let r = (h.rows serial p).0 (sound p c) in ((h.places.exact p).0 r.0, r.1),
    λ i.
        let lt : p < length xs = i.1.0 in
        let below : p ≤ most = omega arith in
        complete p below ((h.rows serial p).1 ((h.places.exact p).1 i.0, i.1)),
  );
}

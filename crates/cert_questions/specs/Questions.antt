-- Which keys may have signed which items. A key holder is given by its place among the items with
-- the anchors after them.
use Rattle.std.specs.Prelude.{◌≡◌, ◌⊎◌, ◌+◌, ◌<◌, ℕ, List, ◌++◌, length, Some, Contains, slice_index_or}
use Rattle.cert_judge.specs.Revoking.{Item}
use Rattle.cert_questions.specs.declared.question.KeyHolder.{KeyHolder}
use Rattle.cert_questions.specs.declared.question.KeyHolder.TheVariants as holders
use Rattle.cert_questions.specs.declared.question.Question.{Question}
use Rattle.cert_questions.specs.Shown.{issuer_at, subject_at, key_at}

-- the item at a place is a certificate with this subject and this key
pub record Holds (items : List Item) (v : ℕ) (name key : List ℕ) : Type 0 where
  pub named : subject_at items v ≡ Some name
  pub keyed : key_at items v ≡ Some key

-- no certificate before it has them
pub record HoldsFirst (items : List Item) (v : ℕ) (name key : List ℕ) : Type 0 where
  pub holds : Holds items v name key
  pub first : (u : ℕ) → u < v → Holds items u name key → ⊥

-- An item was issued under a name that the subject of a key holder has, the first with its key:
-- whether that key verifies the item's signature matters (RFC 5280, 6.1.3, a 1 and a 4; for lists
-- 6.3.3, f and g).
pub record IsQuestion (items anchors : List Item) (v h : ℕ) : Type 0 where
  pub name : List ℕ
  pub key : List ℕ
  pub issued : issuer_at items v ≡ Some name
  pub holder : HoldsFirst (items ++ anchors) h name key

-- the place of a key holder, after so many items
abbrev pub place_of : ℕ → KeyHolder → ℕ
place_of items (holders.Item k) = k
place_of items (holders.Anchor k) = items + k

-- a holder is an item of so many, or an anchor
abbrev pub IsHolder : ℕ → KeyHolder → Type 0
IsHolder items (holders.Item k) = k < items
IsHolder items (holders.Anchor k) = Unit {0}

-- one place comes before another: by the item, then by the key holder
abbrev pub ComesBefore : ℕ → Question → Question → Type 0
ComesBefore items p q = (p.item < q.item) ⊎ ((p.item ≡ q.item) × (place_of items p.holder < place_of items q.holder))

-- All questions of these items and anchors, each once: by the items, and for each item first the
-- key holders among the items.
pub record AreQuestions (items anchors : List Item) (questions : List Question) : Type 0 where
  pub sound : (q : Question) → Contains questions q → IsHolder (length items) q.holder × IsQuestion items anchors q.item (place_of (length items) q.holder)
  pub complete : (v h : ℕ) → IsQuestion items anchors v h → (q : Question) × Contains questions q × (q.item ≡ v) × (place_of (length items) q.holder ≡ h)
  pub ordered : (i j : ℕ) (q : Question) → i < j → j < length questions → ComesBefore (length items) (slice_index_or questions i q) (slice_index_or questions j q)

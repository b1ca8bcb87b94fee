-- Rows of lists that revoke, and their numbers. Contracts of private functions cite it.
use Rattle.std.specs.Prelude.{◌≡◌, ◌<◌, ℕ, List, length, slice_index_or, Contains, None, Some, Vec}
use Rattle.std.specs.Ordering.{nat_cmp}
use Rattle.std.specs.BTreeMap as mapped
use Rattle.std.specs.BTreeMap.{BTreeMap}
use Rattle.std.specs.declared.alloc.Global.{Global}
use Rattle.jiff_core.specs.declared.civil.datetime.DateTime.{DateTime}
use Rattle.cert_graph.specs.Entries.{IsAt}
use Rattle.cert_judge.specs.declared.items.CertificateItem.{CertificateItem}
use Rattle.cert_judge.specs.declared.items.ReadItem.{ReadItem}
use Rattle.cert_judge.specs.declared.items.ReadItem.TheVariants.{Certificate as certificate_read}
use Rattle.cert_reasons.specs.Listed.{ArePlaces, IsInForceAt, HasSerialAt}
use Rattle.certpath_why.specs.Firsts.{AreFirsts}
use Rattle.certpath_why.specs.declared.revoking.Revokers.{Revokers}
use Rattle.certpath_why.specs.declared.revoking.RevokingRows.{RevokingRows}

-- the lists in force of a certificate's issuer that have its serial number
abbrev pub ArePlacesOf : List ReadItem → DateTime → CertificateItem → List ℕ → Type 0
ArePlacesOf xs moment x row = ArePlaces (λ s. IsInForceAt xs moment x.issuer.now s × HasSerialAt xs x.fields.serial.now s) row

-- the row of a number has them
abbrev pub IsRowOf : List ReadItem → DateTime → List (Vec ℕ Global) → CertificateItem → ℕ → Type 0
IsRowOf xs moment rows x n = (n < length rows) × ((r : Vec ℕ Global) → ArePlacesOf xs moment x (slice_index_or rows n r).items)

-- rows that had a number have it still
pub record AreRowsKept (old new : List (Vec ℕ Global)) : Type 0 where
  pub many : (n : ℕ) → n < length old → n < length new
  pub same : (n : ℕ) (r : Vec ℕ Global) → n < length old → slice_index_or new n r ≡ slice_index_or old n r

-- the number under a position is that of a row, which the certificate there has
abbrev pub IsNumberedAt : List ReadItem → DateTime → List (Vec ℕ Global) → ℕ → ℕ → Type 0
IsNumberedAt xs moment rows p n = (n < length rows) × ((x : CertificateItem) → IsAt xs p (λ z. z ≡ certificate_read x) → IsRowOf xs moment rows x n)

abbrev pub AreNumbered : List ReadItem → DateTime → List (Vec ℕ Global) → BTreeMap ℕ ℕ → Type 0
AreNumbered xs moment rows numbers = (p n : ℕ) → mapped.get nat_cmp numbers p ≡ Some n → IsNumberedAt xs moment rows p n

-- a position has a number
abbrev pub HasNumber : BTreeMap ℕ ℕ → ℕ → Type 0
HasNumber numbers p = mapped.get nat_cmp numbers p ≡ None → ⊥

-- Each certificate at a position that has a number has its row.
pub record AreRevoking (xs : List ReadItem) (moment : DateTime) (rows : RevokingRows) : Type 0 where
  pub firsts : AreFirsts rows.rows.items rows.firsts.items
  pub numbered : AreNumbered xs moment rows.rows.items rows.numbers

-- The target, if it is a certificate, and further certificates have numbers.
pub record AreReached (IsThere : ℕ → Type 0) (v : ℕ) (ps : List ℕ) (numbers : BTreeMap ℕ ℕ) : Type 0 where
  pub target : IsThere v → HasNumber numbers v
  pub further : (p : ℕ) → Contains ps p → HasNumber numbers p

-- The lists of a certificate's row, and its number.
pub record AreRevokersOf (xs : List ReadItem) (moment : DateTime) (rows : List (Vec ℕ Global)) (x : CertificateItem) (r : Revokers) : Type 0 where
  pub is_row : IsRowOf xs moment rows x r.number
  pub row : (d : Vec ℕ Global) → r.lists.now ≡ (slice_index_or rows r.number d).items
  pub are : ArePlacesOf xs moment x r.lists.now

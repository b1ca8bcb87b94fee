-- The lists of an issuer that are in force, and those of them that revoke. Contracts of private functions
-- cite it.
use Rattle.std.specs.Prelude.{◌≡◌, ◌↔◌, ℕ, List, Any, Contains}
use Rattle.std.specs.List.Sorted.{IsStrictlyIncreasing}
use Rattle.jiff_core.specs.declared.civil.datetime.DateTime.{DateTime}
use Rattle.cert_graph.specs.Entries.{IsAt}
use Rattle.cert_model.specs.Fields.{Entry}
use Rattle.cert_model.specs.View.{time_view}
use Rattle.cert_judge.specs.declared.items.ListItem.{ListItem}
use Rattle.cert_judge.specs.declared.items.ReadItem.{ReadItem}
use Rattle.cert_judge.specs.Vouching.{Vouching}
use Rattle.cert_judge.specs.Revoking.{IsCurrent, IsPlain}
use Rattle.cert_judge.specs.Items.{list_of, IsListWith}
use Rattle.cert_reasons.specs.declared.listed.Listed.{Listed}
use Rattle.cert_reasons.specs.declared.listed.Places.{Places}
use Rattle.cert_reasons.specs.declared.listed.Places.TheVariants.{Own, Lent}

-- the places that are kept, or were lent
abbrev pub places_in : Places → List ℕ
places_in (Own places) = places.items
places_in (Lent places) = places.now

-- exactly the places with a property, in ascending order
pub record ArePlaces (P : ℕ → Type 0) (ps : List ℕ) : Type 0 where
  pub ascends : IsStrictlyIncreasing ps
  pub exact : (p : ℕ) → Contains ps p ↔ P p

-- the issuer of a list is this name
abbrev pub IsOf : List ℕ → ListItem → Type 0
IsOf name l = l.issuer.now ≡ name

-- a list of this issuer is current, and nothing in it says that it must not be read as it is
pub record IsInForce (moment : DateTime) (name : List ℕ) (l : ListItem) : Type 0 where
  pub issuer : IsOf name l
  pub current : IsCurrent (time_view moment) (list_of l)
  pub plain : IsPlain (list_of l)

-- the entries of a list have a serial number
abbrev pub HasSerial : List ℕ → ListItem → Type 0
HasSerial serial l = Any (λ (n : Entry). n.serial ≡ serial) (list_of l).entries

abbrev pub IsVouched : Vouching → List ℕ → ListItem → Type 0
IsVouched v key l = v.Vouches key l.octets.now

-- the item at a place is such a list
abbrev pub IsInForceAt : List ReadItem → DateTime → List ℕ → ℕ → Type 0
IsInForceAt xs moment name p = IsAt xs p (IsListWith (IsInForce moment name))

abbrev pub HasSerialAt : List ReadItem → List ℕ → ℕ → Type 0
HasSerialAt xs serial p = IsAt xs p (IsListWith (HasSerial serial))

abbrev pub IsVouchedAt : Vouching → List ReadItem → List ℕ → ℕ → Type 0
IsVouchedAt v xs key p = IsAt xs p (IsListWith (IsVouched v key))

-- the lists of an issuer that are in force, and those of them that have an entry of a serial number
pub record AreListed (xs : List ReadItem) (moment : DateTime) (name serial : List ℕ) (l : Listed) : Type 0 where
  pub in_force : ArePlaces (IsInForceAt xs moment name) (places_in l.in_force)
  pub revoking : ArePlaces (λ p. IsInForceAt xs moment name p × HasSerialAt xs serial p) l.revoking.items
